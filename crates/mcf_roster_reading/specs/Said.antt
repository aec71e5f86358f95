-- How many each person takes, or each thing needs, as all cells together say.
-- Source: own
use Rattle.std.specs.Prelude.{ℕ, ◌-◌, Bool, List, map, filter, slice_get, Option, Some, None}
use Rattle.std.specs.List.{flat_map}
use Rattle.std.specs.Option.{is_some}
use Rattle.mcf_names.specs.Names.{number_of}
use Rattle.mcf_table.specs.Texts.{Record}
use Rattle.mcf_roster_reading.specs.Cells.{cell_in}
use Rattle.mcf_roster_reading.specs.Faults.{told}
use Rattle.mcf_roster_reading.specs.Sayings.{said_kind, saying_of}
use Rattle.mcf_roster_reading.specs.declared.kinds.Fault.{Fault}
use Rattle.mcf_roster_reading.specs.declared.kinds.Location.TheVariants.{Cell}
use Rattle.mcf_roster_reading.specs.declared.layouts.SaidAt.{SaidAt}
use Rattle.mcf_roster_reading.specs.declared.sayings.Saying.{Saying}

-- the cell says a number or a range
abbrev pub is_said : List Record → SaidAt → Bool
is_said records said = is_some (saying_of (cell_in records said.cell))

-- those whose cells say a number or a range
abbrev pub kept : List Record → List SaidAt → List SaidAt
kept records said = filter (is_said records) said

-- the name of which a cell says something
abbrev pub said_name : List Record → SaidAt → List ℕ
said_name records said = cell_in records said.name

-- the one with a number, from 1
abbrev pub at_number : List SaidAt → Option ℕ → Option SaidAt
at_number said None = None
at_number said (Some number) = slice_get said (number - 1)

-- what a cell says
abbrev pub said_in : List Record → Option SaidAt → Option Saying
said_in records None = None
said_in records (Some said) = saying_of (cell_in records said.cell)

-- what the first of these cells says that is of a name, where these are their names
abbrev pub kept_saying : List Record → List SaidAt → List (List ℕ) → List ℕ → Option Saying
kept_saying records said names name = said_in records (at_number said (number_of name names))

-- what is said first of a name, if anything is
abbrev pub first_saying : List Record → List SaidAt → List ℕ → Option Saying
first_saying records said name = kept_saying records (kept records said) (map (said_name records) (kept records said)) name

-- what is said first of each of some names
abbrev pub sayings : List Record → List SaidAt → List (List ℕ) → List (Option Saying)
sayings records said names = map (first_saying records said) names

-- the fault of a cell, where these cells say something, and these are their names
abbrev pub said_fault_by : List Record → List SaidAt → List (List ℕ) → SaidAt → List Fault
said_fault_by records said names one =
    told (Cell one.cell) (said_kind (cell_in records one.cell) (kept_saying records said names (said_name records one)))

-- the faults of cells: each says nothing, or the same as the first that says something of its name
abbrev pub all_said_faults : List Record → List SaidAt → List Fault
all_said_faults records said =
    flat_map (said_fault_by records (kept records said) (map (said_name records) (kept records said))) said
