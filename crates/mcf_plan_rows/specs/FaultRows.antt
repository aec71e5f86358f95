-- Faults of two tables as rows of a table.
-- Source: own
use Rattle.std.specs.Prelude.{ℕ, suc, List, [], ◌∷◌, ◌++◌, codes, decimal, Option, Some, None}
use Rattle.mcf_answer_rows.specs.AnswerRows.{answer_row, line_at}
use Rattle.mcf_answer_rows.specs.FaultWords.{fault_row, field_word, name_word, number_word, too_great}
use Rattle.mcf_flows.specs.declared.code.Code.TheVariants as code
use Rattle.mcf_instance.specs.declared.arrays.ArrayFault.{ArrayFault}
use Rattle.mcf_instance.specs.declared.arrays.ArrayFault.TheVariants as number
use Rattle.mcf_model.specs.declared.faults.RouteFault.{RouteFault}
use Rattle.mcf_model.specs.declared.faults.RouteFault.TheVariants as route
use Rattle.mcf_places.specs.declared.faults.PlannerFault.{PlannerFault}
use Rattle.mcf_places.specs.declared.faults.PlannerFault.TheVariants as planner
use Rattle.mcf_places.specs.declared.origins.Origin.{Origin}
use Rattle.mcf_places.specs.declared.origins.Origin.TheVariants.{OfPlace, OfPenalty, OfRoute, OfAll}
use Rattle.mcf_reading.specs.Cells.{cell_at}
use Rattle.mcf_reading.specs.HeadTexts.{head_text}
use Rattle.mcf_reading.specs.declared.kinds.Fault.{Fault}
use Rattle.mcf_reading.specs.declared.kinds.FaultKind.{FaultKind}
use Rattle.mcf_reading.specs.declared.kinds.FaultKind.TheVariants as kind
use Rattle.mcf_reading.specs.declared.locations.ColumnAt.{ColumnAt}
use Rattle.mcf_reading.specs.declared.locations.ColumnAt.TheVariants.{Under, Placed}
use Rattle.mcf_reading.specs.declared.locations.Location.{Location}
use Rattle.mcf_reading.specs.declared.locations.Table.{Table}
use Rattle.mcf_reading.specs.declared.locations.Table.TheVariants.{Places, Routes}
use Rattle.mcf_table.specs.Heads.{cells_of, column_of, only_place}
use Rattle.mcf_table.specs.Texts.{Record}
use Rattle.mcf_table.specs.declared.fault.TextFault.{TextFault}
use Rattle.mcf_units.specs.declared.great.GreatFault.{GreatFault}
use Rattle.mcf_units.specs.declared.great.GreatFault.TheVariants as great
use Rattle.mcf_plan_rows.specs.declared.fault_rows.Two.{Two}

-- ---- where rows stand

-- the two tables
pub record TwoTables : Type 0 where
  pub places : List Record
  pub routes : List Record

-- their rows
abbrev pub tables_in : Two → TwoTables
tables_in two = record { places = two.places.now; routes = two.routes.now }

-- one of them
abbrev pub table_in : TwoTables → Table → List Record
table_in two Places = two.places
table_in two Routes = two.routes

-- the word of a table
abbrev pub table_word : Table → List ℕ
table_word Places = codes "places"
table_word Routes = codes "routes"

-- the row that says that there are faults
abbrev pub faults_row : List (List ℕ)
faults_row = answer_row (codes "faults")

-- ---- texts that are no tables

-- why a text is no table, if it is none
abbrev pub text_rows : Table → Option TextFault → List (List (List ℕ))
text_rows table None = []
text_rows table (Some fault) = fault_row (table_word table) (decimal fault.line) [] (field_word fault.kind) [] ∷ []

-- ---- faults of heads and cells

-- what is wrong with a cell, in front of the head that is meant, if it is about one
abbrev pub fault_word : FaultKind → List ℕ
fault_word kind.NoColumn = codes "no such column"
fault_word kind.TwoColumns = codes "two such columns"
fault_word (kind.NearHead head) = codes "nearly "
fault_word (kind.Without head) = codes "not read without "
fault_word kind.BothMarks = codes "both decimal marks"
fault_word kind.Beyond = codes "beyond the last head"
fault_word (kind.Name fault) = name_word fault
fault_word kind.Twice = codes "named twice"
fault_word kind.NoPlace = codes "no such place"
fault_word (kind.Number fault) = number_word fault
fault_word kind.AfterNoLimit = codes "after a step without a limit"
fault_word kind.NotYesNo = codes "neither yes nor no"

-- the head that is meant, if a fault is about one
abbrev pub meant_text : FaultKind → List ℕ
meant_text (kind.NearHead head) = head_text head
meant_text (kind.Without head) = head_text head
meant_text kind = []

-- what is wrong with a cell
abbrev pub fault_text : FaultKind → List ℕ
fault_text kind = fault_word kind ++ meant_text kind

-- a column: its head, or its place, from 1
abbrev pub column_text : ColumnAt → List ℕ
column_text (Under head) = head_text head
column_text (Placed place) = decimal (suc place)

-- the place of a column; none, if its head doesn't stand in just one column
abbrev pub column_place : List Record → ColumnAt → Option ℕ
column_place records (Under head) = only_place (column_of (head_text head) records)
column_place records (Placed place) = Some place

-- the cell at a location
abbrev pub cell_in : List Record → Location → List ℕ
cell_in records at = cell_at (cells_of records at.row) (column_place records at.column)

-- what is wrong at a location
abbrev pub located_row : List Record → Location → List ℕ → List (List ℕ)
located_row records at what =
    fault_row (table_word at.table) (decimal (line_at records at.row)) (column_text at.column) what (cell_in records at)

-- a fault of a head or a cell
abbrev pub cell_fault_row : TwoTables → Fault → List (List ℕ)
cell_fault_row two fault = located_row (table_in two fault.at.table) fault.at (fault_text fault.kind)

-- ---- numbers that are too great

-- the option of the penalty
unfoldable pub penalty_word : List ℕ
penalty_word = codes "penalty"

-- an option with a fault
abbrev pub option_row : List ℕ → List ℕ → List (List ℕ)
option_row option what = fault_row (codes "options") [] option what []

-- a number that is too great, or that there are too many
abbrev pub great_row : TwoTables → GreatFault → List (List ℕ)
great_row two great.Steps = fault_row (codes "routes") [] (codes "most") (codes "too many steps") []
great_row two great.Penalty = option_row penalty_word too_great
great_row two (great.Cell at) = located_row (table_in two at.table) at too_great

-- ---- faults of the problem; the k-th place, and the k-th route, is that of row k

-- the column that a fault of a route is about
abbrev pub route_column : RouteFault → List ℕ
route_column route.Place = codes "from"
route_column route.Steps = codes "most"
route_column route.Room = codes "most"
route_column route.FallingCost = codes "cost"
route_column route.BothWays = codes "both"
route_column route.NoLimit = codes "most"

-- what is wrong with a route
abbrev pub route_word : RouteFault → List ℕ
route_word route.Place = codes "no such place"
route_word route.Steps = codes "no such steps"
route_word route.Room = codes "below 0"
route_word route.FallingCost = codes "falling cost"
route_word route.BothWays = codes "both ways with a least amount or a cost below 0"
route_word route.NoLimit = codes "no limit, but a cost below 0"

-- the table that a fault of the problem is about, or the options
abbrev pub planner_table : PlannerFault → List ℕ
planner_table planner.Size = codes "places"
planner_table planner.Total = codes "places"
planner_table planner.Penalty = codes "options"
planner_table (planner.BelowPenalty place) = codes "places"
planner_table (planner.IdlePenalty place) = codes "places"
planner_table (planner.NoPenalty place) = codes "places"
planner_table (planner.NoLimit place) = codes "places"
planner_table (planner.Routes fault) = codes "routes"

-- its line, if it is about one row
abbrev pub planner_line : TwoTables → PlannerFault → List ℕ
planner_line two (planner.BelowPenalty place) = decimal (line_at two.places place)
planner_line two (planner.IdlePenalty place) = decimal (line_at two.places place)
planner_line two (planner.NoPenalty place) = decimal (line_at two.places place)
planner_line two (planner.NoLimit place) = decimal (line_at two.places place)
planner_line two (planner.Routes fault) = decimal (line_at two.routes fault.route)
planner_line two fault = []

-- its column
abbrev pub planner_column : PlannerFault → List ℕ
planner_column planner.Size = []
planner_column planner.Total = codes "supply"
planner_column planner.Penalty = codes "penalty"
planner_column (planner.BelowPenalty place) = codes "penalty"
planner_column (planner.IdlePenalty place) = codes "penalty"
planner_column (planner.NoPenalty place) = codes "penalty"
planner_column (planner.NoLimit place) = codes "most"
planner_column (planner.Routes fault) = route_column fault.what

-- what is wrong
abbrev pub planner_word : PlannerFault → List ℕ
planner_word planner.Size = codes "too many places"
planner_word planner.Total = codes "too great in total"
planner_word planner.Penalty = codes "below 0"
planner_word (planner.BelowPenalty place) = codes "below 0"
planner_word (planner.IdlePenalty place) = codes "a penalty, but a supply above 0"
planner_word (planner.NoPenalty place) = codes "no penalty, but other places have one"
planner_word (planner.NoLimit place) = codes "no limit, but a cost below 0"
planner_word (planner.Routes fault) = route_word fault.what

-- a fault of the problem
abbrev pub planner_row : TwoTables → PlannerFault → List (List ℕ)
planner_row two fault = fault_row (planner_table fault) (planner_line two fault) (planner_column fault) (planner_word fault) []

-- ---- numbers beyond the limits

-- the column of a number of a network
abbrev pub number_column : ArrayFault → List ℕ
number_column number.Size = []
number_column (number.Supply node) = codes "supply"
number_column (number.Arc arc code.Bound) = codes "most"
number_column (number.Arc arc code.Order) = codes "least"
number_column (number.Arc arc other) = codes "cost"

-- the column that a number beyond the limits is about: that of penalties, if it comes from one
abbrev pub beyond_column : Option Origin → ArrayFault → List ℕ
beyond_column (Some (OfPenalty place)) fault = codes "penalty"
beyond_column (Some (OfPlace place)) fault = number_column fault
beyond_column (Some (OfRoute route)) fault = number_column fault
beyond_column (Some OfAll) fault = number_column fault
beyond_column None fault = number_column fault

-- what is wrong with such a number
abbrev pub beyond_word : ArrayFault → List ℕ
beyond_word number.Size = codes "too many places or routes"
beyond_word (number.Supply node) = codes "beyond the limits"
beyond_word (number.Arc arc code.Order) = codes "least above most"
beyond_word (number.Arc arc other) = codes "beyond the limits"

-- the table that it comes from, if it is one
abbrev pub origin_table : Option Origin → List ℕ
origin_table (Some (OfPlace place)) = codes "places"
origin_table (Some (OfPenalty place)) = codes "places"
origin_table (Some (OfRoute route)) = codes "routes"
origin_table (Some OfAll) = []
origin_table None = []

-- its line there
abbrev pub origin_line : TwoTables → Option Origin → List ℕ
origin_line two (Some (OfPlace place)) = decimal (line_at two.places place)
origin_line two (Some (OfPenalty place)) = decimal (line_at two.places place)
origin_line two (Some (OfRoute route)) = decimal (line_at two.routes route)
origin_line two (Some OfAll) = []
origin_line two None = []

-- a number beyond the limits, and where it comes from
abbrev pub beyond_row : TwoTables → Option Origin → ArrayFault → List (List ℕ)
beyond_row two origin fault = fault_row (origin_table origin) (origin_line two origin) (beyond_column origin fault) (beyond_word fault) []
