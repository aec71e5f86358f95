-- Faults of a table of groups as rows of a table.
-- Source: own
use Rattle.std.specs.Prelude.{ℕ, true, List, [], ◌∷◌, codes, decimal, Option, Some, None}
use Rattle.mcf_answer_rows.specs.AnswerRows.{line_at}
use Rattle.mcf_answer_rows.specs.FaultWords.{fault_row, field_word, name_word}
use Rattle.mcf_group_reading.specs.GroupHeads.{head_word}
use Rattle.mcf_group_reading.specs.declared.kinds.Fault.{Fault}
use Rattle.mcf_group_reading.specs.declared.kinds.FaultKind.{FaultKind}
use Rattle.mcf_group_reading.specs.declared.kinds.FaultKind.TheVariants as kind
use Rattle.mcf_group_reading.specs.declared.kinds.Head.{Head}
use Rattle.mcf_group_reading.specs.declared.kinds.Head.TheVariants as title
use Rattle.mcf_group_reading.specs.declared.kinds.Location.{Location}
use Rattle.mcf_group_reading.specs.declared.kinds.Location.TheVariants.{Heads, Under, Cell}
use Rattle.mcf_groups.specs.declared.faults.GroupFault.{GroupFault}
use Rattle.mcf_groups.specs.declared.faults.GroupFaultKind.{GroupFaultKind}
use Rattle.mcf_groups.specs.declared.faults.GroupFaultKind.TheVariants as group
use Rattle.mcf_groups.specs.declared.ordering.Crossing.{Crossing}
use Rattle.mcf_roster_reading.specs.Cells.{cell_in}
use Rattle.mcf_table.specs.Texts.{Record}
use Rattle.mcf_table.specs.declared.fault.TextFault.{TextFault}
use Rattle.mcf_table.specs.declared.heads.CellPlace.{CellPlace}
use Rattle.mcf_pair_text.specs.GroupRows.{Book, group_line, group_name}
use Rattle.mcf_pair_text.specs.PairPlaces.{Sheet, column_text}

-- the word of the table
abbrev pub groups_word : List ℕ
groups_word = codes "groups"

-- what is wrong with a title that is nearly this head
abbrev pub near_word : Head → List ℕ
near_word title.Group = codes "nearly group"
near_word title.Who = codes "nearly who"
near_word title.What = codes "nearly what"
near_word title.Least = codes "nearly least"
near_word title.Most = codes "nearly most"

-- what is wrong with a cell, a column or the table
abbrev pub fault_word : FaultKind → List ℕ
fault_word kind.NoColumn = codes "no such column"
fault_word kind.TwoColumns = codes "two such columns"
fault_word kind.NoMembers = codes "no column who or what"
fault_word (kind.NearHead head) = near_word head
fault_word kind.NoGroup = codes "no group"
fault_word kind.Beyond = codes "beyond the last head"
fault_word (kind.Name fault) = name_word fault
fault_word kind.Neither = codes "no person or thing"
fault_word kind.Both = codes "a person and a thing"
fault_word kind.Unknown = codes "not in the costs"
fault_word kind.Mixed = codes "persons and things"
fault_word kind.Twice = codes "named twice"
fault_word kind.NoNumber = codes "no whole number"
fault_word kind.TwoNumbers = codes "two different numbers"
fault_word kind.Above = codes "least above most"

-- what is wrong with a group
abbrev pub group_fault_word : GroupFaultKind → List ℕ
group_fault_word group.Empty = codes "least above most"
group_fault_word group.Astray = codes "not in the costs"
group_fault_word group.Size = codes "too many places"
group_fault_word group.Crossing = codes "crosses another group"

-- why a text is no table, if it is none: the table, and the line
abbrev pub broken_rows : List ℕ → Option TextFault → List (List (List ℕ))
broken_rows table None = []
broken_rows table (Some fault) = fault_row table (decimal fault.line) [] (field_word fault.kind) [] ∷ []

-- the table of groups is a list
abbrev pub group_sheet : List Record → Sheet
group_sheet records = record { rows = records; listed = true }

-- what is wrong with a cell: its line, its column, and its text
abbrev pub cell_row : List Record → CellPlace → List ℕ → List (List ℕ)
cell_row records at what =
    fault_row groups_word (decimal (line_at records at.row)) (column_text (group_sheet records) at) what (cell_in records at)

-- what is wrong in the row of the heads
abbrev pub heading_row : List Record → List ℕ → List ℕ → List (List ℕ)
heading_row records column what = fault_row groups_word (decimal (line_at records 0)) column what []

-- what is wrong at a location
abbrev pub located_row : List Record → Location → List ℕ → List (List ℕ)
located_row records Heads what = heading_row records [] what
located_row records (Under head) what = heading_row records (head_word head) what
located_row records (Cell at) what = cell_row records at what

-- a fault of a head or a cell
abbrev pub group_row : List Record → Fault → List (List ℕ)
group_row records fault = located_row records fault.at (fault_word fault.kind)

-- what is wrong with a group: the line on which it is named first, and its name
abbrev pub named_fault_row : Book → ℕ → List ℕ → List (List ℕ)
named_fault_row b number what = fault_row groups_word (group_line b number) (codes "group") what (group_name b number)

-- the fault of a group
abbrev pub improper_row : Book → GroupFault → List (List ℕ)
improper_row b fault = named_fault_row b fault.group (group_fault_word fault.what)

-- the fault of a group that crosses another
abbrev pub crossing_fault_row : Book → Crossing → List (List ℕ)
crossing_fault_row b c = named_fault_row b c.group (codes "crosses another group")
