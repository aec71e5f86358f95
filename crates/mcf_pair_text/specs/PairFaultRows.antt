-- Faults of a table of persons and things as rows of a table.
-- Source: own
use Rattle.std.specs.Prelude.{ℕ, ◌-◌, List, [], ◌∷◌, codes, decimal, slice_get, Option, Some, None}
use Rattle.mcf_answer_rows.specs.AnswerRows.{line_at}
use Rattle.mcf_answer_rows.specs.FaultWords.{fault_row, field_word, name_word, number_word, too_great}
use Rattle.mcf_flows.specs.declared.code.Code.TheVariants as code
use Rattle.mcf_instance.specs.declared.arrays.ArrayFault.{ArrayFault}
use Rattle.mcf_instance.specs.declared.arrays.ArrayFault.TheVariants as number
use Rattle.mcf_roster.specs.declared.faults.RosterFault.{RosterFault}
use Rattle.mcf_roster.specs.declared.faults.RosterFault.TheVariants as roster
use Rattle.mcf_roster.specs.declared.origins.Origin.{Origin}
use Rattle.mcf_roster.specs.declared.origins.Origin.TheVariants.{OfPair, OfPerson, OfThing, OfAll}
use Rattle.mcf_roster_reading.specs.Cells.{cell_in}
use Rattle.mcf_roster_reading.specs.Columns.{head_word}
use Rattle.mcf_roster_reading.specs.Reading.{Entries}
use Rattle.mcf_roster_reading.specs.declared.kinds.Fault.{Fault}
use Rattle.mcf_roster_reading.specs.declared.kinds.FaultKind.{FaultKind}
use Rattle.mcf_roster_reading.specs.declared.kinds.FaultKind.TheVariants as kind
use Rattle.mcf_roster_reading.specs.declared.kinds.Head.{Head}
use Rattle.mcf_roster_reading.specs.declared.kinds.Head.TheVariants as title
use Rattle.mcf_roster_reading.specs.declared.kinds.Location.{Location}
use Rattle.mcf_roster_reading.specs.declared.kinds.Location.TheVariants.{Heads, Under, Cell}
use Rattle.mcf_roster_reading.specs.declared.pairs.PairEntry.{PairEntry}
use Rattle.mcf_table.specs.declared.fault.TextFault.{TextFault}
use Rattle.mcf_table.specs.declared.heads.CellPlace.{CellPlace}
use Rattle.mcf_pair_text.specs.PairPlaces.{Sheet, column_text, name_line, numbered, person_column, thing_column}

-- the word of the table
unfoldable pub costs_word : List ℕ
costs_word = codes "costs"

-- a fault that is about no cell: its line, its column, and what is wrong
abbrev pub costs_row : List ℕ → List ℕ → List ℕ → List (List ℕ)
costs_row line column what = fault_row costs_word line column what []

-- why the text is no table
abbrev pub text_row : TextFault → List (List ℕ)
text_row fault = costs_row (decimal fault.line) [] (field_word fault.kind)

-- ---- faults of heads and cells

-- what is wrong with a title that is nearly this head
abbrev pub near_word : Head → List ℕ
near_word title.Who = codes "nearly who"
near_word title.What = codes "nearly what"
near_word title.Cost = codes "nearly cost"
near_word title.Takes = codes "nearly takes"
near_word title.Needs = codes "nearly needs"

-- what is wrong with a cell, a column or the table
abbrev pub fault_word : FaultKind → List ℕ
fault_word kind.NoColumn = codes "no such column"
fault_word kind.TwoColumns = codes "two such columns"
fault_word (kind.NearHead head) = near_word head
fault_word kind.BothMarks = codes "both decimal marks"
fault_word kind.Beyond = codes "beyond the last head"
fault_word (kind.Name fault) = name_word fault
fault_word kind.Twice = codes "named twice"
fault_word (kind.Number fault) = number_word fault
fault_word kind.NoRange = codes "no number or range"
fault_word kind.TwoRanges = codes "two different numbers"
fault_word kind.NoThing = codes "no thing"
fault_word kind.NoPerson = codes "no person"

-- what is wrong with a cell: its line, its column, and its text
abbrev pub cell_row : Sheet → CellPlace → List ℕ → List (List ℕ)
cell_row s at what =
    fault_row costs_word (decimal (line_at s.rows at.row)) (column_text s at) what (cell_in s.rows at)

-- what is wrong at a location
abbrev pub located_row : Sheet → Location → List ℕ → List (List ℕ)
located_row s Heads what = costs_row (decimal (line_at s.rows 0)) [] what
located_row s (Under head) what = costs_row (decimal (line_at s.rows 0)) (head_word head) what
located_row s (Cell at) what = cell_row s at what

-- a fault of a head or a cell
abbrev pub cell_fault_row : Sheet → Fault → List (List ℕ)
cell_fault_row s fault = located_row s fault.at (fault_word fault.kind)

-- a cost that is too great in the unit of the table
abbrev pub great_row : Sheet → CellPlace → List (List ℕ)
great_row s at = cell_row s at too_great

-- ---- faults of the roster, and numbers beyond the limits

-- what is wrong with a pair, if there is such a one: where its cost stands
abbrev pub pair_fault_row : Sheet → Option PairEntry → List ℕ → List (List ℕ)
pair_fault_row s None what = costs_row [] [] what
pair_fault_row s (Some p) what = cell_row s p.at what

-- what is wrong with how many things a person takes: where the person is named first
abbrev pub person_fault_row : Sheet → Entries → ℕ → List ℕ → List (List ℕ)
person_fault_row s said v what = costs_row (name_line s.rows (person_column s) (numbered said.persons v)) (codes "takes") what

-- what is wrong with how many persons a thing needs: where the thing is named first
abbrev pub thing_fault_row : Sheet → Entries → ℕ → List ℕ → List (List ℕ)
thing_fault_row s said v what = costs_row (name_line s.rows (thing_column s) (numbered said.things v)) (codes "needs") what

-- what is wrong with what a number comes from
abbrev pub origin_row : Sheet → Entries → Origin → List ℕ → List (List ℕ)
origin_row s said (OfPair k) what = pair_fault_row s (slice_get said.pairs (k - 1)) what
origin_row s said (OfPerson v) what = person_fault_row s said v what
origin_row s said (OfThing v) what = thing_fault_row s said v what
origin_row s said OfAll what = costs_row [] [] what

-- what a fault of the roster comes from
abbrev pub improper_origin : RosterFault → Origin
improper_origin roster.Size = OfAll
improper_origin (roster.Takes v) = OfPerson v
improper_origin (roster.Needs v) = OfThing v
improper_origin (roster.Ends k) = OfPair k

-- what is wrong with the roster
abbrev pub improper_word : RosterFault → List ℕ
improper_word roster.Size = codes "too many persons or things"
improper_word (roster.Takes v) = codes "least above most"
improper_word (roster.Needs v) = codes "least above most"
improper_word (roster.Ends k) = codes "no such person or thing"

-- a fault of the roster
abbrev pub improper_row : Sheet → Entries → RosterFault → List (List ℕ)
improper_row s said fault = origin_row s said (improper_origin fault) (improper_word fault)

-- what is wrong with a number beyond the limits
abbrev pub beyond_word : ArrayFault → List ℕ
beyond_word number.Size = codes "too many persons, things or pairs"
beyond_word (number.Supply node) = codes "beyond the limits"
beyond_word (number.Arc arc code.Order) = codes "least above most"
beyond_word (number.Arc arc other) = codes "beyond the limits"

-- where a number beyond the limits comes from; nowhere if that isn't known
abbrev pub origin_or_all : Option Origin → Origin
origin_or_all None = OfAll
origin_or_all (Some origin) = origin

-- a number beyond the limits, and where it comes from
abbrev pub beyond_row : Sheet → Entries → Option Origin → ArrayFault → List (List ℕ)
beyond_row s said origin fault = origin_row s said (origin_or_all origin) (beyond_word fault)
