-- What a table of groups says.
-- Source: own
use Rattle.std.specs.Prelude.{ℕ, ◌==◌, List, [], ◌∷◌, ◌++◌, length, map, Result, Ok, Err}
use Rattle.mcf_names.specs.Names.{distinct}
use Rattle.mcf_roster_reading.specs.Cells.{rows}
use Rattle.mcf_table.specs.Texts.{Record}
use Rattle.mcf_group_reading.specs.Faults.{beyond_faults, if_kind, told}
use Rattle.mcf_group_reading.specs.GroupHeads.{column_faults, member_faults}
use Rattle.mcf_group_reading.specs.GroupRows.{Rosters, Sheet, first_row, member_entry, names_in, of_things, sheet_of}
use Rattle.mcf_group_reading.specs.Bounds.{Bounds, bounds_of, empty_faults}
use Rattle.mcf_group_reading.specs.Limits.{first_said, number_faults}
use Rattle.mcf_group_reading.specs.NearHeads.{near_faults}
use Rattle.mcf_group_reading.specs.RowFaults.{all_row_faults}
use Rattle.mcf_group_reading.specs.declared.kinds.Fault.{Fault}
use Rattle.mcf_group_reading.specs.declared.kinds.FaultKind.TheVariants.{NoGroup}
use Rattle.mcf_group_reading.specs.declared.kinds.Location.TheVariants.{Heads}
use Rattle.mcf_group_reading.specs.declared.rows.MemberEntry.{MemberEntry}
use Rattle.mcf_group_reading.specs.declared.tables.GroupEntry.{GroupEntry}

-- the names of the groups, what is said of each, and their members
pub record Entries : Type 0 where
  pub names : List (List ℕ)
  pub groups : List GroupEntry
  pub members : List MemberEntry

-- what is said of a group, where these are the groups that all rows name
abbrev pub group_entry : Sheet → List (List ℕ) → Bounds → List ℕ → GroupEntry
group_entry s names b name = record {
  row = first_row names name;
  things = of_things s (first_row names name);
  least = first_said s b.least name;
  most = first_said s b.most name;
}

-- what the rows say: groups in the order in which they come first, and members in that of the rows
abbrev pub entries : Rosters → Sheet → List ℕ → Entries
entries known s rows =
    let names = names_in s rows in
    record {
      names = distinct names;
      groups = map (group_entry s names (bounds_of s rows)) (distinct names);
      members = map (member_entry known s (distinct names)) rows;
    }

-- The faults of heads, in order: those of the heads that are looked for, that no column names
-- members, and those of columns that aren't read because their heads are only nearly these.
abbrev pub head_faults : List Record → List Fault
head_faults records = column_faults records ++ member_faults records ++ near_faults records

-- that there is no group
abbrev pub nothing_faults : List ℕ → List Fault
nothing_faults rows = told Heads (if_kind (length rows == 0) NoGroup)

-- The faults of numbers, in order: of the cells of `least` and of `most`, and groups whose least
-- number is above their greatest.
abbrev pub limit_faults : Sheet → Bounds → List ℕ → List Fault
limit_faults s b rows =
    number_faults s b.least rows ++ number_faults s b.most rows ++ empty_faults s (names_in s rows) b rows

-- The faults of cells, in order: those beyond the last head, those of the groups and members that
-- rows name, those of numbers, and that there is no group.
abbrev pub cell_faults : Rosters → Sheet → List ℕ → List Fault
cell_faults known s rows =
    beyond_faults s.records ++ all_row_faults known s rows ++ limit_faults s (bounds_of s rows) rows ++ nothing_faults rows

-- these faults, or what is said if there are none
abbrev pub unless : List Fault → Result Entries (List Fault) → Result Entries (List Fault)
unless [] said = said
unless (fault ∷ faults) said = Err (fault ∷ faults)

-- what these rows of a table say, or the faults of its cells
abbrev pub read_sheet : Rosters → Sheet → List ℕ → Result Entries (List Fault)
read_sheet known s rows = unless (cell_faults known s rows) (Ok (entries known s rows))

-- What the table says: the faults of its heads, if there are some; or the faults of cells, if there
-- are some; or else the groups and their members.
abbrev pub read_groups : Rosters → List Record → Result Entries (List Fault)
read_groups known records = unless (head_faults records) (read_sheet known (sheet_of records) (rows records))
