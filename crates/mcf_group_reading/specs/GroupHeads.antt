-- The heads of the columns that are read, and their faults.
-- Source: own
use Rattle.std.specs.Prelude.{ℕ, Bool, true, false, not, ◌&&◌, if◌then◌else◌, List, [], ◌∷◌, codes, Option, Some, None}
use Rattle.std.specs.List.{flat_map}
use Rattle.mcf_table.specs.Heads.{column_of, is_there, only_place}
use Rattle.mcf_table.specs.Texts.{Record}
use Rattle.mcf_table.specs.declared.heads.Column.{Column}
use Rattle.mcf_table.specs.declared.heads.Column.TheVariants.{Missing, Twice, At}
use Rattle.mcf_group_reading.specs.Faults.{if_kind, told}
use Rattle.mcf_group_reading.specs.declared.heads.Columns.{Columns}
use Rattle.mcf_group_reading.specs.declared.kinds.Fault.{Fault}
use Rattle.mcf_group_reading.specs.declared.kinds.FaultKind.{FaultKind}
use Rattle.mcf_group_reading.specs.declared.kinds.FaultKind.TheVariants.{NoColumn, NoMembers, TwoColumns}
use Rattle.mcf_group_reading.specs.declared.kinds.Head.{Head}
use Rattle.mcf_group_reading.specs.declared.kinds.Head.TheVariants.{Group, Who, What, Least, Most}
use Rattle.mcf_group_reading.specs.declared.kinds.Location.TheVariants.{Heads, Under}

-- the text of a head
abbrev pub head_word : Head → List ℕ
head_word Group = codes "group"
head_word Who = codes "who"
head_word What = codes "what"
head_word Least = codes "least"
head_word Most = codes "most"

-- the heads that are looked for
abbrev pub all_heads : List Head
all_heads = Group ∷ Who ∷ What ∷ Least ∷ Most ∷ []

-- the column of a table that has this head
abbrev pub column_under : List Record → Head → Column
column_under records head = column_of (head_word head) records

-- one column or more has the head
abbrev pub has_head : List Record → Head → Bool
has_head records head = is_there (column_under records head)

-- the place of the column with a head, if just one has it
abbrev pub place_under : List Record → Head → Option ℕ
place_under records head = only_place (column_under records head)

-- the places of all columns that are read
abbrev pub columns_of : List Record → Columns
columns_of records = record {
  group = place_under records Group;
  who = place_under records Who;
  what = place_under records What;
  least = place_under records Least;
  most = place_under records Most;
}

-- a table must have a column with this head
abbrev pub is_needed : Head → Bool
is_needed Group = true
is_needed Who = false
is_needed What = false
is_needed Least = false
is_needed Most = false

-- what is wrong with the column of a head
abbrev pub column_kind : Bool → Column → Option FaultKind
column_kind needed Missing = if needed then Some NoColumn else None
column_kind needed Twice = Some TwoColumns
column_kind needed (At place) = None

-- the fault of a head
abbrev pub head_fault : List Record → Head → List Fault
head_fault records head = told (Under head) (column_kind (is_needed head) (column_under records head))

-- that no column names members
abbrev pub member_faults : List Record → List Fault
member_faults records = told Heads (if_kind (not (has_head records Who) && not (has_head records What)) NoMembers)

-- the faults of columns that are looked for, in their order
abbrev pub column_faults : List Record → List Fault
column_faults records = flat_map (head_fault records) all_heads
