-- Faults of tables over periods as rows of a table. Those of the problem without periods are told
-- of the rows that its places and its routes come from, and have one cell more: the period.
-- Source: own
use Rattle.std.specs.Prelude.{ℕ, suc, ◌-◌, ◌==◌, nat_lt, Bool, if◌then◌else◌, List, [], ◌∷◌, ◌++◌, codes, decimal, length, Option, Some, None}
use Rattle.mcf_answer_rows.specs.AnswerRows.{cell_under, line_at}
use Rattle.mcf_answer_rows.specs.FaultWords.{fault_row, name_word, number_word, too_great}
use Rattle.mcf_flows.specs.declared.code.Code.TheVariants as code
use Rattle.mcf_instance.specs.declared.arrays.ArrayFault.{ArrayFault}
use Rattle.mcf_instance.specs.declared.arrays.ArrayFault.TheVariants as number
use Rattle.mcf_model.specs.declared.faults.RouteFault.{RouteFault}
use Rattle.mcf_model.specs.declared.faults.RouteFault.TheVariants as route
use Rattle.mcf_period_reading.specs.PeriodHeads.{head_text}
use Rattle.mcf_period_reading.specs.declared.heads.PeriodHead.{PeriodHead}
use Rattle.mcf_period_reading.specs.declared.heads.PeriodHead.TheVariants.{FirstStock, KeepCost, KeepMost, LastStock, Lead, Period}
use Rattle.mcf_period_reading.specs.declared.kinds.PeriodFault.{PeriodFault}
use Rattle.mcf_period_reading.specs.declared.kinds.PeriodKind.{PeriodKind}
use Rattle.mcf_period_reading.specs.declared.kinds.PeriodKind.TheVariants as kind
use Rattle.mcf_period_units.specs.declared.faults.PeriodCell.{PeriodCell}
use Rattle.mcf_period_units.specs.declared.faults.PeriodGreat.{PeriodGreat}
use Rattle.mcf_period_units.specs.declared.faults.PeriodGreat.TheVariants as great
use Rattle.mcf_places.specs.declared.faults.PlannerFault.{PlannerFault}
use Rattle.mcf_places.specs.declared.faults.PlannerFault.TheVariants as planner
use Rattle.mcf_places.specs.declared.origins.Origin.{Origin}
use Rattle.mcf_places.specs.declared.origins.Origin.TheVariants.{OfPlace, OfPenalty, OfRoute, OfAll}
use Rattle.mcf_plan_rows.specs.FaultRows.{TwoTables, beyond_column, beyond_word, great_row, planner_column, planner_table, planner_word, table_in, table_word}
use Rattle.mcf_reading.specs.Cells.{cell_at}
use Rattle.mcf_reading.specs.declared.locations.Table.TheVariants.{Places, Routes}
use Rattle.mcf_table.specs.Heads.{cells_of, column_of, only_place}
use Rattle.mcf_table.specs.Texts.{Record}
use Rattle.mcf_period_text.specs.TimedTables.{TimedTables, departure_origin, period_name, place_origin, store_origin, told_row}

-- ---- faults of heads and cells

-- that a title nearly is this head
abbrev pub near_word : PeriodHead → List ℕ
near_word Period = codes "nearly period"
near_word KeepMost = codes "nearly keep most"
near_word KeepCost = codes "nearly keep cost"
near_word FirstStock = codes "nearly first stock"
near_word LastStock = codes "nearly last stock"
near_word Lead = codes "nearly lead"

-- what is wrong with what a cell under a head says of periods
abbrev pub period_word : PeriodHead → PeriodKind → List ℕ
period_word under kind.TwoColumns = codes "two such columns"
period_word under kind.NoPeriods = codes "not read without period"
period_word under (kind.NearHead place) = near_word under
period_word under kind.NoneNamed = codes "no period named"
period_word under (kind.Name fault) = name_word fault
period_word under kind.Twice = codes "named twice in a period"
period_word under kind.NoPeriod = codes "no such period"
period_word under (kind.Number fault) = number_word fault
period_word under kind.BelowZero = codes "below 0"
period_word under kind.NoLead = codes "no number of periods"
period_word under kind.NotFirst = codes "not in the first period"
period_word under kind.NotLast = codes "not in the last period"

-- the column of a fault: its head, or, of a title that nearly is the head, its place, from 1
abbrev pub period_column : PeriodHead → PeriodKind → List ℕ
period_column under (kind.NearHead place) = decimal (suc place)
period_column under kind = head_text under

-- its place, from 0; none, if the head doesn't stand in just one column
abbrev pub period_place : List Record → PeriodHead → PeriodKind → Option ℕ
period_place records under (kind.NearHead place) = Some place
period_place records under kind = only_place (column_of (head_text under) records)

-- a fault of what a table says of periods
abbrev pub period_fault_row : TwoTables → PeriodFault → List (List ℕ)
period_fault_row two fault =
    let records = table_in two fault.table in
    fault_row (table_word fault.table) (decimal (line_at records fault.row)) (period_column fault.head fault.kind)
    (period_word fault.head fault.kind) (cell_at (cells_of records fault.row) (period_place records fault.head fault.kind))

-- ---- numbers that are too great, and rows that are too late

-- that there are too many places
unfoldable pub many_places : List ℕ
many_places = codes "too many places in all periods"

-- a number that is too great in a cell about periods in the table of places
abbrev pub period_cell_row : TwoTables → PeriodCell → List (List ℕ)
period_cell_row two at =
    fault_row (table_word Places) (decimal (line_at two.places at.row)) (head_text at.head) too_great
    (cell_under (head_text at.head) two.places at.row)

-- a number that is too great, or that there are too many; or a row of routes that is too late
abbrev pub period_great_row : TwoTables → PeriodGreat → List (List ℕ)
period_great_row two great.Places = fault_row (table_word Places) [] [] many_places []
period_great_row two (great.Number fault) = great_row two fault
period_great_row two (great.Cell at) = period_cell_row two at
period_great_row two (great.Late row) =
    fault_row (table_word Routes) (decimal (line_at two.routes row)) (head_text Lead) (codes "arrives after the last period")
    (cell_under (head_text Lead) two.routes row)

-- ---- where faults of the problem stand

-- where a fault stands: the table, the line, the column, and the name of the period; empty cells,
-- if it is about none
pub record FaultPlace : Type 0 where
  pub table : List ℕ
  pub line : List ℕ
  pub column : List ℕ
  pub period : List ℕ

-- the column of an amount between two periods: that of the first stock, if it is there before the
-- named ones, that of the last stock, if it is left after them, or else this one
abbrev pub stock_column : List (List ℕ) → ℕ → ℕ → List ℕ → List ℕ
stock_column periods begins ends column =
    if begins == 0 then head_text FirstStock else if nat_lt (length periods) ends then head_text LastStock else column

-- a place in a period, by its number
abbrev pub of_place : TimedTables → ℕ → List ℕ → FaultPlace
of_place t number column =
    let o = place_origin t (number - 1) in
    record { table = table_word Places; line = decimal (line_at t.two.places (told_row o)); column = column; period = period_name t.periods o.period }

-- the route with this number is that of a store
abbrev pub is_store : TimedTables → ℕ → Bool
is_store t number = nat_lt (number - 1) (length t.origins.stores.items)

-- a store, by the number of its route
abbrev pub of_store : TimedTables → ℕ → List ℕ → FaultPlace
of_store t number column =
    let s = store_origin t (number - 1) in
    record {
      table = table_word Places;
      line = decimal (line_at t.two.places s.row);
      column = stock_column t.periods s.period (suc s.period) column;
      period = period_name t.periods s.period;
    }

-- a departure, by the number of its route
abbrev pub of_departure : TimedTables → ℕ → List ℕ → FaultPlace
of_departure t number column =
    let d = departure_origin t (number - 1 - length t.origins.stores.items) in
    record { table = table_word Routes; line = decimal (line_at t.two.routes d.row); column = column; period = period_name t.periods d.period }

-- a store or a departure, by the number of its route; which column it is, if it is a store, and if
-- it is a departure
abbrev pub of_route : TimedTables → ℕ → List ℕ → List ℕ → FaultPlace
of_route t number kept sent = if is_store t number then of_store t number kept else of_departure t number sent

-- no row
abbrev pub of_none : List ℕ → List ℕ → FaultPlace
of_none table column = record { table = table; line = []; column = column; period = [] }

-- a fault at its place, with the period
abbrev pub placed_row : FaultPlace → List ℕ → List (List ℕ)
placed_row at what = fault_row at.table at.line at.column what [] ++ at.period ∷ []

-- ---- faults of the problem

-- the column of a store that a fault of a route is about
abbrev pub store_column : RouteFault → List ℕ
store_column route.Place = codes "name"
store_column route.Steps = head_text KeepMost
store_column route.Room = head_text KeepMost
store_column route.FallingCost = head_text KeepCost
store_column route.BothWays = head_text KeepCost
store_column route.NoLimit = head_text KeepMost

-- where a fault of the problem stands
abbrev pub planner_place : TimedTables → PlannerFault → FaultPlace
planner_place t (planner.BelowPenalty place) = of_place t place (planner_column (planner.BelowPenalty place))
planner_place t (planner.IdlePenalty place) = of_place t place (planner_column (planner.IdlePenalty place))
planner_place t (planner.NoPenalty place) = of_place t place (planner_column (planner.NoPenalty place))
planner_place t (planner.NoLimit place) = of_place t place (planner_column (planner.NoLimit place))
planner_place t (planner.Routes fault) = of_route t fault.route (store_column fault.what) (planner_column (planner.Routes fault))
planner_place t fault = of_none (planner_table fault) (planner_column fault)

-- a fault of the problem
abbrev pub period_planner_row : TimedTables → PlannerFault → List (List ℕ)
period_planner_row t fault = placed_row (planner_place t fault) (planner_word fault)

-- ---- numbers beyond the limits

-- the column of a number of a store
abbrev pub store_number : ArrayFault → List ℕ
store_number number.Size = []
store_number (number.Supply node) = head_text KeepMost
store_number (number.Arc arc code.Bound) = head_text KeepMost
store_number (number.Arc arc code.Order) = head_text KeepMost
store_number (number.Arc arc other) = head_text KeepCost

-- the column of the amount of a place in a period: that of its supply, or of its stock
abbrev pub amount_column : TimedTables → ℕ → List ℕ → List ℕ
amount_column t number column =
    let period = (place_origin t (number - 1)).period in
    stock_column t.periods period period column

-- where a number beyond the limits comes from
abbrev pub beyond_place : TimedTables → Option Origin → ArrayFault → FaultPlace
beyond_place t (Some (OfPlace place)) fault = of_place t place (amount_column t place (beyond_column (Some (OfPlace place)) fault))
beyond_place t (Some (OfPenalty place)) fault = of_place t place (beyond_column (Some (OfPenalty place)) fault)
beyond_place t (Some (OfRoute route)) fault = of_route t route (store_number fault) (beyond_column (Some (OfRoute route)) fault)
beyond_place t (Some OfAll) fault = of_none [] (beyond_column (Some OfAll) fault)
beyond_place t None fault = of_none [] (beyond_column None fault)

-- a number beyond the limits, and where it comes from
abbrev pub period_beyond_row : TimedTables → Option Origin → ArrayFault → List (List ℕ)
period_beyond_row t origin fault = placed_row (beyond_place t origin fault) (beyond_word fault)
