-- Which group and which member a row names.
-- Source: own
use Rattle.std.specs.Prelude.{ℕ, Bool, not, if◌then◌else◌, List, [], map, Option, Some, None, unwrap_or}
use Rattle.mcf_names.specs.Names.{number_of}
use Rattle.mcf_roster_reading.specs.Cells.{at_place, cell_in}
use Rattle.mcf_roster_reading.specs.Pairs.{number_or_none}
use Rattle.mcf_table.specs.Texts.{Record, is_filled}
use Rattle.mcf_table.specs.declared.heads.CellPlace.{CellPlace}
use Rattle.mcf_group_reading.specs.GroupHeads.{columns_of}
use Rattle.mcf_group_reading.specs.declared.heads.Columns.{Columns}
use Rattle.mcf_group_reading.specs.declared.rows.Known.{Known}
use Rattle.mcf_group_reading.specs.declared.rows.MemberEntry.{MemberEntry}
use Rattle.mcf_group_reading.specs.declared.rows.Page.{Page}

-- the cell of a row in a column; empty if the table doesn't have the row or the column
abbrev pub cell_under : List Record → Option ℕ → ℕ → List ℕ
cell_under records None row = []
cell_under records (Some place) row = cell_in records (at_place place row)

-- the rows of a table, and the places of the columns that are read
pub record Sheet : Type 0 where
  pub records : List Record
  pub columns : Columns

-- the table of these rows
abbrev pub sheet_of : List Record → Sheet
sheet_of records = record { records = records; columns = columns_of records }

-- the table of a page
abbrev pub sheet_in : Page → Sheet
sheet_in page = record { records = page.records.now; columns = page.columns }

-- the names of persons and of things that another table knows
pub record Rosters : Type 0 where
  pub persons : List (List ℕ)
  pub things : List (List ℕ)

-- those that are known
abbrev pub rosters_in : Known → Rosters
rosters_in known = record { persons = known.persons.now; things = known.things.now }

-- the group that a row names
abbrev pub name_in : Sheet → ℕ → List ℕ
name_in s row = cell_under s.records s.columns.group row

-- the person that a row names
abbrev pub who_in : Sheet → ℕ → List ℕ
who_in s row = cell_under s.records s.columns.who row

-- the thing that a row names
abbrev pub what_in : Sheet → ℕ → List ℕ
what_in s row = cell_under s.records s.columns.what row

-- a row that names no person is one of a group of things
abbrev pub of_things : Sheet → ℕ → Bool
of_things s row = not (is_filled (who_in s row))

-- the member that a row names
abbrev pub member_in : Sheet → ℕ → List ℕ
member_in s row = if of_things s row then what_in s row else who_in s row

-- the column in which it stands
abbrev pub member_column : Sheet → ℕ → Option ℕ
member_column s row = if of_things s row then s.columns.what else s.columns.who

-- where the name of a row's group stands
abbrev pub name_place : Sheet → ℕ → CellPlace
name_place s row = at_place (unwrap_or s.columns.group 0) row

-- where a row's member stands
abbrev pub member_place : Sheet → ℕ → CellPlace
member_place s row = at_place (unwrap_or (member_column s row) 0) row

-- the names of things, or of persons
abbrev pub known_names : Rosters → Bool → List (List ℕ)
known_names known things = if things then known.things else known.persons

-- the number of the member that a row names, if it is known
abbrev pub known_number : Rosters → Sheet → ℕ → Option ℕ
known_number known s row = number_of (member_in s row) (known_names known (of_things s row))

-- the groups that rows name
abbrev pub names_in : Sheet → List ℕ → List (List ℕ)
names_in s rows = map (name_in s) rows

-- the first row that names a group, where these are the names of all rows; rows count from 1
abbrev pub first_row : List (List ℕ) → List ℕ → ℕ
first_row names name = number_or_none (number_of name names)

-- the number of the group and that of the member that a row names, where these are the groups
unfoldable pub member_entry : Rosters → Sheet → List (List ℕ) → ℕ → MemberEntry
member_entry known s groups row =
    record { group = number_or_none (number_of (name_in s row) groups); member = number_or_none (known_number known s row) }
