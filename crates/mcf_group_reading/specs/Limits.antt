-- How many members of a group anyone has, as all rows together say in one column.
-- Source: own
use Rattle.std.specs.Prelude.{ℕ, ◌-◌, ◌==◌, Bool, if◌then◌else◌, List, filter, slice_get, unwrap_or, Option, Some, None}
use Rattle.std.specs.List.{flat_map}
use Rattle.std.specs.Option.{is_some}
use Rattle.mcf_names.specs.Names.{number_of}
use Rattle.mcf_roster_reading.specs.Cells.{at_place}
use Rattle.mcf_roster_reading.specs.Sayings.{numeral}
use Rattle.mcf_table.specs.Texts.{is_filled}
use Rattle.mcf_group_reading.specs.Faults.{told}
use Rattle.mcf_group_reading.specs.GroupRows.{Sheet, cell_under, name_in, names_in}
use Rattle.mcf_group_reading.specs.declared.kinds.Fault.{Fault}
use Rattle.mcf_group_reading.specs.declared.kinds.FaultKind.{FaultKind}
use Rattle.mcf_group_reading.specs.declared.kinds.FaultKind.TheVariants.{NoNumber, TwoNumbers}
use Rattle.mcf_group_reading.specs.declared.kinds.Location.TheVariants.{Cell}

-- the number that a row says
abbrev pub number_at : Sheet → Option ℕ → ℕ → Option ℕ
number_at s column row = numeral (cell_under s.records column row)

-- the row says a number
abbrev pub says_number : Sheet → Option ℕ → ℕ → Bool
says_number s column row = is_some (number_at s column row)

-- a column, the rows that say a number there, and the groups that they name
pub record Said : Type 0 where
  pub column : Option ℕ
  pub rows : List ℕ
  pub names : List (List ℕ)

-- what a column says
abbrev pub said_of : Sheet → Option ℕ → List ℕ → Said
said_of s column rows =
    let kept = filter (says_number s column) rows in
    record { column = column; rows = kept; names = names_in s kept }

-- the row with a number, from 1
abbrev pub row_at : List ℕ → Option ℕ → Option ℕ
row_at rows None = None
row_at rows (Some number) = slice_get rows (number - 1)

-- the number that a row says, if there is such a row
abbrev pub said_in : Sheet → Option ℕ → Option ℕ → Option ℕ
said_in s column None = None
said_in s column (Some row) = number_at s column row

-- the number that is said first of a group, if any is
abbrev pub first_said : Sheet → Said → List ℕ → Option ℕ
first_said s said name = said_in s said.column (row_at said.rows (number_of name said.names))

-- the fault of a cell that says this, if that is said first of the same group
abbrev pub unless_same : Option ℕ → Option ℕ → Option FaultKind
unless_same None first = Some NoNumber
unless_same (Some said) None = Some TwoNumbers
unless_same (Some said) (Some first) = if said == first then None else Some TwoNumbers

-- what is wrong with a cell, if that is said first of the same group
abbrev pub number_kind : List ℕ → Option ℕ → Option FaultKind
number_kind cell first = if is_filled cell then unless_same (numeral cell) first else None

-- the fault of a row's cell
abbrev pub number_fault : Sheet → Said → ℕ → List Fault
number_fault s said row =
    told (Cell (at_place (unwrap_or said.column 0) row)) (number_kind (cell_under s.records said.column row) (first_said s said (name_in s row)))

-- the faults of all rows
abbrev pub number_faults : Sheet → Said → List ℕ → List Fault
number_faults s said rows = flat_map (number_fault s said) rows
