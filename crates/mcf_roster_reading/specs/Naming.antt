-- The names of persons and things.
-- Source: own
use Rattle.std.specs.Prelude.{ℕ, ◌==◌, nat_lt, Bool, false, ◌&&◌, if◌then◌else◌, List, ◌++◌, length, map, Option, Some, None}
use Rattle.mcf_names.specs.Names.{number_of}
use Rattle.mcf_table.specs.Texts.{Record, is_filled}
use Rattle.mcf_table.specs.declared.heads.CellPlace.{CellPlace}
use Rattle.mcf_roster_reading.specs.Cells.{cell_in}
use Rattle.mcf_roster_reading.specs.Faults.{in_turn, name_kind, told}
use Rattle.mcf_roster_reading.specs.declared.kinds.Fault.{Fault}
use Rattle.mcf_roster_reading.specs.declared.kinds.FaultKind.{FaultKind}
use Rattle.mcf_roster_reading.specs.declared.kinds.FaultKind.TheVariants.{NoPerson, NoThing, Twice}
use Rattle.mcf_roster_reading.specs.declared.kinds.Location.TheVariants.{Cell, Heads}

-- the names in some cells
abbrev pub names_at : List Record → List CellPlace → List (List ℕ)
names_at records places = map (cell_in records) places

-- the number is below this one
abbrev pub is_before : Option ℕ → ℕ → Bool
is_before None number = false
is_before (Some first) number = nat_lt first number

-- an earlier cell has the name, which isn't empty and may stand only once
abbrev pub twice_kind : Bool → List (List ℕ) → ℕ → List ℕ → Option FaultKind
twice_kind once names number cell =
    if once && (is_filled cell && is_before (number_of cell names) number) then Some Twice else None

-- the faults of the name in a cell, the one of this number
abbrev pub name_faults : Bool → List Record → List (List ℕ) → ℕ → CellPlace → List Fault
name_faults once records names number at =
    told (Cell at) (name_kind (cell_in records at)) ++ told (Cell at) (twice_kind once names number (cell_in records at))

-- the faults of the names in some cells
abbrev pub all_name_faults : Bool → List Record → List CellPlace → List Fault
all_name_faults once records places = in_turn (name_faults once records (names_at records places)) 1 places

-- what is wrong if no cell names a thing, or none a person
abbrev pub nothing_kind : List CellPlace → List CellPlace → Option FaultKind
nothing_kind persons things =
    if length things == 0 then Some NoThing else if length persons == 0 then Some NoPerson else None

-- that no cell names a thing, or none a person
abbrev pub nothing_faults : List CellPlace → List CellPlace → List Fault
nothing_faults persons things = told Heads (nothing_kind persons things)
