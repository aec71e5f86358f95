-- Faults at their places.
-- Source: own
use Rattle.std.specs.Prelude.{ℕ, ◌+◌, List, [], ◌∷◌, ◌++◌, map, Option, Some, None, option_map}
use Rattle.mcf_decimal.specs.declared.fault.NumberFault.{NumberFault}
use Rattle.mcf_names.specs.NameFaults.{name_fault}
use Rattle.mcf_table.specs.Heads.{beyond}
use Rattle.mcf_table.specs.Texts.{Record}
use Rattle.mcf_table.specs.declared.heads.CellPlace.{CellPlace}
use Rattle.mcf_roster_reading.specs.declared.kinds.Fault.{Fault}
use Rattle.mcf_roster_reading.specs.declared.kinds.FaultKind.{FaultKind}
use Rattle.mcf_roster_reading.specs.declared.kinds.FaultKind.TheVariants.{Beyond, Name, Number}
use Rattle.mcf_roster_reading.specs.declared.kinds.Location.{Location}
use Rattle.mcf_roster_reading.specs.declared.kinds.Location.TheVariants.{Cell}

-- the fault of a kind at a location, if there is one
abbrev pub told : Location → Option FaultKind → List Fault
told location None = []
told location (Some kind) = record { at = location; kind = kind } ∷ []

-- why a cell isn't a name
abbrev pub name_kind : List ℕ → Option FaultKind
name_kind cell = option_map Name (name_fault cell)

-- why a cell wasn't read as a number
abbrev pub number_kind : Option NumberFault → Option FaultKind
number_kind fault = option_map Number fault

-- the faults of elements in turn, of which the first has a given number
abbrev pub in_turn : {X : Type 0} → (ℕ → X → List Fault) → ℕ → List X → List Fault
in_turn faults number [] = []
in_turn faults number (x ∷ xs) = faults number x ++ in_turn faults (number + 1) xs

-- the fault of a cell beyond the last head
abbrev pub beyond_fault : CellPlace → Fault
beyond_fault cell = record { at = Cell cell; kind = Beyond }

-- the faults of the cells beyond the last head
abbrev pub beyond_faults : List Record → List Fault
beyond_faults records = map beyond_fault (beyond records)
