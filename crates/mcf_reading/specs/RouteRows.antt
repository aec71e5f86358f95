-- The rows of the table of routes.
-- Source: own
use Rattle.std.specs.Prelude.{ℕ, Bool, ◌&&◌, if◌then◌else◌, List, ◌++◌, map, Option, Some, None, unwrap_or}
use Rattle.std.specs.List.{flat_map}
use Rattle.std.specs.Option.{is_none}
use Rattle.std.specs.Result.{result_err}
use Rattle.mcf_decimal.specs.declared.decimal.Decimal.{Decimal}
use Rattle.mcf_decimal.specs.declared.mark.Mark.{Mark}
use Rattle.mcf_names.specs.Names.{number_of}
use Rattle.mcf_table.specs.Heads.{cells_of}
use Rattle.mcf_table.specs.Texts.{Record, is_filled}
use Rattle.mcf_reading.specs.Cells.{amount, cell_at, is_yes, number_kind, read_amount, rows, way_kind}
use Rattle.mcf_reading.specs.Faults.{told, under}
use Rattle.mcf_reading.specs.PlaceRows.{name_kind}
use Rattle.mcf_reading.specs.Steps.{row_step_faults, row_steps}
use Rattle.mcf_reading.specs.declared.columns.RouteColumns.{RouteColumns}
use Rattle.mcf_reading.specs.declared.columns.StepColumns.{StepColumns}
use Rattle.mcf_reading.specs.declared.kinds.Fault.{Fault}
use Rattle.mcf_reading.specs.declared.kinds.FaultKind.{FaultKind}
use Rattle.mcf_reading.specs.declared.kinds.FaultKind.TheVariants.{NoPlace}
use Rattle.mcf_reading.specs.declared.locations.Head.{Head}
use Rattle.mcf_reading.specs.declared.locations.Head.TheVariants.{Least, From, To, Both}
use Rattle.mcf_reading.specs.declared.locations.Table.TheVariants.{Routes}
use Rattle.mcf_reading.specs.declared.route_rows.EndRead.{EndRead}
use Rattle.mcf_reading.specs.declared.route_rows.RouteRead.{RouteRead}
use Rattle.mcf_reading.specs.declared.steps.StepEntry.{StepEntry}

-- a route: the numbers of the places at its ends, from 1, or 0 for no place, what it carries at
-- least, its steps, and whether it is used both ways
pub record Route : Type 0 where
  pub tail : ℕ
  pub head : ℕ
  pub least : Decimal
  pub steps : List StepEntry
  pub both : Bool

-- the number of the place, or 0
abbrev pub place_or_none : Option ℕ → ℕ
place_or_none found = unwrap_or found 0

-- no place has the name, which isn't empty
abbrev pub no_place_kind : Option ℕ → List ℕ → Option FaultKind
no_place_kind found cell = if is_filled cell && is_none found then Some NoPlace else None

-- an end: the first place of this name
unfoldable pub read_end : List (List ℕ) → List ℕ → EndRead
read_end names cell = record {
  name = name_kind cell;
  missing = no_place_kind (number_of cell names) cell;
  place = place_or_none (number_of cell names);
}

-- what a row says beside its steps
unfoldable pub read_route : Option Mark → RouteColumns → List (List ℕ) → List (List ℕ) → RouteRead
read_route mark columns names cells = record {
  tail = read_end names (cell_at cells columns.tail);
  head = read_end names (cell_at cells columns.head);
  least = read_amount mark (cell_at cells columns.least);
  both = is_yes (cell_at cells columns.both);
  way = way_kind (cell_at cells columns.both);
}

-- a route with these steps
abbrev pub route_with : RouteRead → List StepEntry → Route
route_with read steps = record {
  tail = read.tail.place;
  head = read.head.place;
  least = amount read.least;
  steps = steps;
  both = read.both;
}

-- the faults of an end
abbrev pub end_faults : ℕ → Head → EndRead → List Fault
end_faults row head read = told (under Routes row head) read.name ++ told (under Routes row head) read.missing

-- the faults of a row beside those of its steps
unfoldable pub plain_faults : ℕ → RouteRead → List Fault
plain_faults row read =
    end_faults row From read.tail ++ end_faults row To read.head
    ++ told (under Routes row Least) (number_kind (result_err read.least)) ++ told (under Routes row Both) read.way

-- the route of a row
unfoldable pub route_entry : Option Mark → RouteColumns → List StepColumns → List (List ℕ) → List (List ℕ) → Route
route_entry mark columns steps names cells =
    route_with (read_route mark columns names cells) (row_steps mark steps cells)

-- the faults of a row
unfoldable pub route_faults : Option Mark → RouteColumns → List StepColumns → List (List ℕ) → ℕ → List (List ℕ) → List Fault
route_faults mark columns steps names row cells =
    plain_faults row (read_route mark columns names cells) ++ row_step_faults mark row steps cells

-- the routes, in order
abbrev pub route_entries : Option Mark → RouteColumns → List StepColumns → List (List ℕ) → List Record → List Route
route_entries mark columns steps names records =
    map (λ row. route_entry mark columns steps names (cells_of records row)) (rows records)

-- the faults of all rows
abbrev pub all_route_faults : Option Mark → RouteColumns → List StepColumns → List (List ℕ) → List Record → List Fault
all_route_faults mark columns steps names records =
    flat_map (λ row. route_faults mark columns steps names row (cells_of records row)) (rows records)
