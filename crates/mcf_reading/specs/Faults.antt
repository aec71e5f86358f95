-- Faults at their places, and those of heads.
-- Source: own
use Rattle.std.specs.Prelude.{ℕ, Bool, true, false, if◌then◌else◌, List, [], ◌∷◌, map, Option, Some, None}
use Rattle.std.specs.List.{flat_map}
use Rattle.mcf_table.specs.Heads.{beyond}
use Rattle.mcf_table.specs.Texts.{Record}
use Rattle.mcf_table.specs.declared.heads.CellPlace.{CellPlace}
use Rattle.mcf_table.specs.declared.heads.Column.{Column}
use Rattle.mcf_table.specs.declared.heads.Column.TheVariants.{Missing, Twice, At}
use Rattle.mcf_reading.specs.HeadTexts.{column_under, read_heads}
use Rattle.mcf_reading.specs.declared.kinds.Fault.{Fault}
use Rattle.mcf_reading.specs.declared.kinds.FaultKind.{FaultKind}
use Rattle.mcf_reading.specs.declared.kinds.FaultKind.TheVariants.{NoColumn, TwoColumns, Beyond}
use Rattle.mcf_reading.specs.declared.locations.ColumnAt.TheVariants.{Under, Placed}
use Rattle.mcf_reading.specs.declared.locations.Head.{Head}
use Rattle.mcf_reading.specs.declared.locations.Head.TheVariants.{Name, Supply, Most, Cost, From, To}
use Rattle.mcf_reading.specs.declared.locations.Location.{Location}
use Rattle.mcf_reading.specs.declared.locations.Table.{Table}
use Rattle.mcf_reading.specs.declared.locations.Table.TheVariants.{Places, Routes}

-- the cell of a row in the column with a head
abbrev pub under : Table → ℕ → Head → Location
under table row head = record { table = table; row = row; column = Under head }

-- the fault of a kind at a location, if there is one
abbrev pub told : Location → Option FaultKind → List Fault
told location None = []
told location (Some kind) = record { at = location; kind = kind } ∷ []

-- a table must have a column with this head
abbrev pub is_needed : Table → Head → Bool
is_needed Places Name = true
is_needed Places Supply = true
is_needed Routes From = true
is_needed Routes To = true
is_needed Routes (Most step) = true
is_needed Routes (Cost step) = true
is_needed table head = false

-- what is wrong with the column of a head
abbrev pub column_kind : Bool → Column → Option FaultKind
column_kind needed Missing = if needed then Some NoColumn else None
column_kind needed Twice = Some TwoColumns
column_kind needed (At place) = None

-- the fault of a head
abbrev pub head_fault : Table → List Record → Head → List Fault
head_fault table records head = told (under table 0 head) (column_kind (is_needed table head) (column_under records head))

-- the faults of the heads that are looked for in a table, in their order
abbrev pub column_faults : Table → List Record → List Fault
column_faults table records = flat_map (head_fault table records) (read_heads table records)

-- the fault of a cell beyond the last head
abbrev pub beyond_fault : Table → CellPlace → Fault
beyond_fault table cell = record {
  at = record { table = table; row = cell.row; column = Placed cell.place };
  kind = Beyond;
}

-- the faults of the cells beyond the last head
abbrev pub beyond_faults : Table → List Record → List Fault
beyond_faults table records = map (beyond_fault table) (beyond records)
