-- The heads of the columns that are read, and their faults.
-- Source: own
use Rattle.std.specs.Prelude.{ℕ, Bool, true, false, ◌&&◌, ◌||◌, if◌then◌else◌, List, [], ◌∷◌, codes, Option, Some, None, unwrap_or}
use Rattle.std.specs.List.{flat_map}
use Rattle.mcf_table.specs.Heads.{column_of, is_there, only_place}
use Rattle.mcf_table.specs.Texts.{Record}
use Rattle.mcf_table.specs.declared.heads.Column.{Column}
use Rattle.mcf_table.specs.declared.heads.Column.TheVariants.{Missing, Twice, At}
use Rattle.mcf_roster_reading.specs.Faults.{told}
use Rattle.mcf_roster_reading.specs.declared.kinds.Fault.{Fault}
use Rattle.mcf_roster_reading.specs.declared.kinds.FaultKind.{FaultKind}
use Rattle.mcf_roster_reading.specs.declared.kinds.FaultKind.TheVariants.{NoColumn, TwoColumns}
use Rattle.mcf_roster_reading.specs.declared.kinds.Head.{Head}
use Rattle.mcf_roster_reading.specs.declared.kinds.Head.TheVariants.{Who, What, Cost, Takes, Needs}
use Rattle.mcf_roster_reading.specs.declared.kinds.Location.TheVariants.{Under}

-- the text of a head
abbrev pub head_word : Head → List ℕ
head_word Who = codes "who"
head_word What = codes "what"
head_word Cost = codes "cost"
head_word Takes = codes "takes"
head_word Needs = codes "needs"

-- the column of a table that has this head
abbrev pub column_under : List Record → Head → Column
column_under records head = column_of (head_word head) records

-- the place of the column with a head, if just one has it
abbrev pub place_under : List Record → Head → Option ℕ
place_under records head = only_place (column_under records head)

-- the place of the column with a head; the first column if it isn't just one, which is a fault
abbrev pub column_or_first : List Record → Head → ℕ
column_or_first records head = unwrap_or (place_under records head) 0

-- two of the tests hold, at least
abbrev pub at_least_two : Bool → Bool → Bool → Bool
at_least_two first second third = (first && second) || ((first && third) || (second && third))

-- The table is a list: it has columns with two, at least, of the heads who, what and cost. Any
-- other is a matrix.
abbrev pub is_list : List Record → Bool
is_list records =
    at_least_two (is_there (column_under records Who)) (is_there (column_under records What)) (is_there (column_under records Cost))

-- a list must have a column with this head
abbrev pub is_needed : Head → Bool
is_needed Who = true
is_needed What = true
is_needed Cost = true
is_needed Takes = false
is_needed Needs = false

-- what is wrong with the column of a head
abbrev pub column_kind : Bool → Column → Option FaultKind
column_kind needed Missing = if needed then Some NoColumn else None
column_kind needed Twice = Some TwoColumns
column_kind needed (At place) = None

-- the fault of a head
abbrev pub head_fault : List Record → Head → List Fault
head_fault records head = told (Under head) (column_kind (is_needed head) (column_under records head))

-- the heads that are looked for in a list
abbrev pub list_heads : List Head
list_heads = Who ∷ What ∷ Cost ∷ Takes ∷ Needs ∷ []

-- the heads that are looked for, in a list or in a matrix
abbrev pub read_heads : Bool → List Head
read_heads true = list_heads
read_heads false = Takes ∷ []

-- the faults of the heads that are looked for, in their order
abbrev pub column_faults : List Record → List Fault
column_faults records = flat_map (head_fault records) (read_heads (is_list records))
