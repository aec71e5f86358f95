-- Faults at their places.
-- Source: own
use Rattle.std.specs.Prelude.{ℕ, Bool, true, false, List, [], ◌∷◌, map, Option, Some, None, option_map}
use Rattle.mcf_names.specs.NameFaults.{name_fault}
use Rattle.mcf_table.specs.Heads.{beyond}
use Rattle.mcf_table.specs.Texts.{Record}
use Rattle.mcf_table.specs.declared.heads.CellPlace.{CellPlace}
use Rattle.mcf_group_reading.specs.declared.kinds.Fault.{Fault}
use Rattle.mcf_group_reading.specs.declared.kinds.FaultKind.{FaultKind}
use Rattle.mcf_group_reading.specs.declared.kinds.FaultKind.TheVariants.{Beyond, Name}
use Rattle.mcf_group_reading.specs.declared.kinds.Location.{Location}
use Rattle.mcf_group_reading.specs.declared.kinds.Location.TheVariants.{Cell}

-- the kind, if the test holds
abbrev pub if_kind : Bool → FaultKind → Option FaultKind
if_kind true kind = Some kind
if_kind false kind = None

-- the fault of a kind at a location, if there is one
abbrev pub told : Location → Option FaultKind → List Fault
told location None = []
told location (Some kind) = record { at = location; kind = kind } ∷ []

-- why a cell isn't a name
abbrev pub name_kind : List ℕ → Option FaultKind
name_kind cell = option_map Name (name_fault cell)

-- the fault of a cell beyond the last head
abbrev pub beyond_fault : CellPlace → Fault
beyond_fault cell = record { at = Cell cell; kind = Beyond }

-- the faults of the cells beyond the last head
abbrev pub beyond_faults : List Record → List Fault
beyond_faults records = map beyond_fault (beyond records)
