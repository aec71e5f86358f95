-- What is wrong with the group and the member that a row names.
-- Source: own
use Rattle.std.specs.Prelude.{ℕ, Bool, not, ◌&&◌, if◌then◌else◌, List, ◌++◌, map, Option}
use Rattle.std.specs.List.{flat_map}
use Rattle.std.specs.Option.{is_none}
use Rattle.mcf_names.specs.Names.{number_of}
use Rattle.mcf_roster_reading.specs.Naming.{is_before}
use Rattle.mcf_roster_reading.specs.Repeated.{pair_text}
use Rattle.mcf_table.specs.Texts.{is_filled}
use Rattle.mcf_group_reading.specs.Faults.{if_kind, name_kind, told}
use Rattle.mcf_group_reading.specs.GroupRows.{Rosters, Sheet, first_row, known_number, member_in, member_place, name_in, name_place, names_in, of_things, rosters_in, what_in, who_in}
use Rattle.mcf_group_reading.specs.declared.kinds.Fault.{Fault}
use Rattle.mcf_group_reading.specs.declared.kinds.FaultKind.{FaultKind}
use Rattle.mcf_group_reading.specs.declared.kinds.FaultKind.TheVariants.{Both, Mixed, Neither, Twice, Unknown}
use Rattle.mcf_group_reading.specs.declared.kinds.Location.TheVariants.{Cell}
use Rattle.mcf_group_reading.specs.declared.row_faults.Lists.{Lists}

-- the names that are known, the groups that all rows name, and the texts of all rows
pub record Listed : Type 0 where
  pub known : Rosters
  pub names : List (List ℕ)
  pub texts : List (List ℕ)

-- those of these lists
abbrev pub listed_in : Lists → Listed
listed_in lists = record { known = rosters_in lists.known; names = lists.names.now; texts = lists.texts.now }

-- the text of a row: the names of its group and of its member, with a zero byte between them
abbrev pub row_text : Sheet → ℕ → List ℕ
row_text s row = pair_text (name_in s row) (member_in s row)

-- the lists of a table
abbrev pub listed_of : Rosters → Sheet → List ℕ → Listed
listed_of known s rows = record { known = known; names = names_in s rows; texts = map (row_text s) rows }

-- what is wrong if a row names no person and no thing, or both
abbrev pub member_kind : Bool → Bool → Option FaultKind
member_kind who what = if who then if_kind what Both else if_kind (not what) Neither

-- both tests hold, or neither
abbrev pub are_same : Bool → Bool → Bool
are_same one other = if one then other else not other

-- the row names just one member
abbrev pub names_one : Sheet → ℕ → Bool
names_one s row = not (are_same (is_filled (who_in s row)) (is_filled (what_in s row)))

-- the row names a group and just one member
abbrev pub is_whole : Sheet → ℕ → Bool
is_whole s row = is_filled (name_in s row) && names_one s row

-- nobody knows the member
abbrev pub is_unknown : Listed → Sheet → ℕ → Bool
is_unknown l s row = names_one s row && is_none (known_number l.known s row)

-- the first row of the group names one of the other kind
abbrev pub is_mixed : Listed → Sheet → ℕ → Bool
is_mixed l s row = is_whole s row && not (are_same (of_things s row) (of_things s (first_row l.names (name_in s row))))

-- an earlier row names the same member of the same group
abbrev pub is_twice : Listed → Sheet → ℕ → Bool
is_twice l s row = is_whole s row && is_before (number_of (row_text s row) l.texts) row

-- the faults of a row: its group is no name; it names no member, or two; nobody knows the member;
-- it is of the other kind; it is a member twice
unfoldable pub row_faults : Listed → Sheet → ℕ → List Fault
row_faults l s row =
    told (Cell (name_place s row)) (name_kind (name_in s row))
    ++ told (Cell (name_place s row)) (member_kind (is_filled (who_in s row)) (is_filled (what_in s row)))
    ++ told (Cell (member_place s row)) (if_kind (is_unknown l s row) Unknown)
    ++ told (Cell (member_place s row)) (if_kind (is_mixed l s row) Mixed)
    ++ told (Cell (member_place s row)) (if_kind (is_twice l s row) Twice)

-- the faults of all rows
abbrev pub all_row_faults : Rosters → Sheet → List ℕ → List Fault
all_row_faults known s rows = flat_map (row_faults (listed_of known s rows) s) rows
