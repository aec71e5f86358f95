-- What rows of places say about periods.
-- Source: own
use Rattle.std.specs.Prelude.{ℕ, ◌-◌, ◌==◌, nat_lt, Bool, ◌&&◌, ◌||◌, if◌then◌else◌, List, [], ◌∷◌, ◌++◌, map, take, codes, Option, Some, None, option_map}
use Rattle.std.specs.List.{flat_map, list_any}
use Rattle.mcf_decimal.specs.declared.mark.Mark.{Mark}
use Rattle.mcf_names.specs.NameFaults.{name_fault}
use Rattle.mcf_names.specs.Names.{distinct, number_of}
use Rattle.mcf_reading.specs.Cells.{amount, cell_at, limit, read_amount, read_limit, rows}
use Rattle.mcf_reading.specs.RouteRows.{place_or_none}
use Rattle.mcf_reading.specs.declared.locations.Table.TheVariants.{Places}
use Rattle.mcf_table.specs.Heads.{cells_of, column_of, only_place}
use Rattle.mcf_table.specs.Texts.{Record, is_filled}
use Rattle.mcf_period_reading.specs.PeriodCells.{limit_kind, number_kind, stock_kind}
use Rattle.mcf_period_reading.specs.PeriodFaults.{if_kind, told}
use Rattle.mcf_period_reading.specs.PeriodHeads.{place_under}
use Rattle.mcf_period_reading.specs.Spots.{spot_at}
use Rattle.mcf_period_reading.specs.declared.heads.PeriodHead.TheVariants.{Period, KeepMost, KeepCost, FirstStock, LastStock}
use Rattle.mcf_period_reading.specs.declared.kinds.PeriodFault.{PeriodFault}
use Rattle.mcf_period_reading.specs.declared.kinds.PeriodKind.{PeriodKind}
use Rattle.mcf_period_reading.specs.declared.kinds.PeriodKind.TheVariants.{Name, NotFirst, NotLast, Twice}
use Rattle.mcf_period_reading.specs.declared.place_times.KeepEntry.{KeepEntry}
use Rattle.mcf_period_reading.specs.declared.place_times.PlaceFormat.{PlaceFormat}
use Rattle.mcf_period_reading.specs.declared.place_times.PlaceTime.{PlaceTime}
use Rattle.mcf_period_reading.specs.declared.spots.Spot.{Spot}
use Rattle.mcf_period_reading.specs.declared.place_times.TimeColumns.{TimeColumns}

-- the columns
abbrev pub time_columns : List Record → TimeColumns
time_columns records = record {
  name = only_place (column_of (codes "name") records);
  period = place_under records Period;
  keep_most = place_under records KeepMost;
  keep_cost = place_under records KeepCost;
  first_stock = place_under records FirstStock;
  last_stock = place_under records LastStock;
}

-- the cell, unless it is empty
abbrev pub filled : List ℕ → List (List ℕ)
filled cell = if is_filled cell then cell ∷ [] else []

-- the cells of periods that aren't empty
abbrev pub period_cells : Option ℕ → List Record → List (List ℕ)
period_cells column records = flat_map (λ row. filled (cell_at (cells_of records row) column)) (rows records)

-- The periods: each that the table of places names, in the order in which they come first.
abbrev pub periods_in : List Record → List (List ℕ)
periods_in records = distinct (period_cells (place_under records Period) records)

-- the number of a period, from 1; 0 for each period
abbrev pub period_number : List (List ℕ) → List ℕ → ℕ
period_number periods cell = if is_filled cell then place_or_none (number_of cell periods) else 0

-- the first row that names the place, and the number of the period
abbrev pub spot_of : List (List ℕ) → List (List ℕ) → List ℕ → List ℕ → Spot
spot_of names periods name period = record { place = place_or_none (number_of name names); period = period_number periods period }

-- the place and the period of each row
abbrev pub spots : TimeColumns → List (List ℕ) → List (List ℕ) → List Record → List Spot
spots columns names periods records =
    map (λ row. spot_of names periods (cell_at (cells_of records row) columns.name) (cell_at (cells_of records row) columns.period)) (rows records)

-- both are of one place, and hold in one period
abbrev pub clashes : Spot → Spot → Bool
clashes a b = a.place == b.place && (a.period == 0 || (b.period == 0 || a.period == b.period))

-- an earlier row is of the same place, and holds in one period with it
abbrev pub is_taken : List Spot → ℕ → Bool
is_taken all row = list_any (clashes (spot_at all row)) (take (row - 1) all)

-- ---- faults

-- why a cell isn't a name; an empty cell is none, and means each period
abbrev pub period_kind : List ℕ → Option PeriodKind
period_kind cell = if is_filled cell then option_map Name (name_fault cell) else None

-- the faults of a row's period
abbrev pub period_faults : ℕ → List ℕ → List ℕ → Bool → List PeriodFault
period_faults row name period taken =
    told Places row Period (period_kind period) ++ told Places row Period (if_kind (is_filled name && taken) Twice)

-- the faults of what a place may keep
abbrev pub keep_faults : Option Mark → ℕ → List ℕ → List ℕ → List PeriodFault
keep_faults mark row most cost =
    told Places row KeepMost (limit_kind (read_limit mark most)) ++ told Places row KeepCost (number_kind (read_amount mark cost))

-- the faults of the stock before the first period
abbrev pub first_faults : Option Mark → ℕ → ℕ → List ℕ → List PeriodFault
first_faults mark row period cell =
    told Places row FirstStock (stock_kind (read_amount mark cell))
    ++ told Places row FirstStock (if_kind (is_filled cell && nat_lt 1 period) NotFirst)

-- the faults of the stock after the last period, of so many
abbrev pub last_faults : Option Mark → ℕ → ℕ → ℕ → List ℕ → List PeriodFault
last_faults mark count row period cell =
    told Places row LastStock (stock_kind (read_amount mark cell))
    ++ told Places row LastStock (if_kind (is_filled cell && (nat_lt 0 period && nat_lt period count)) NotLast)

-- the faults of a row
abbrev pub place_faults : PlaceFormat → List Spot → ℕ → List (List ℕ) → List PeriodFault
place_faults format all row cells =
    period_faults row (cell_at cells format.columns.name) (cell_at cells format.columns.period) (is_taken all row)
    ++ (keep_faults format.mark row (cell_at cells format.columns.keep_most) (cell_at cells format.columns.keep_cost)
    ++ (first_faults format.mark row ((spot_at all row).period) (cell_at cells format.columns.first_stock)
    ++ last_faults format.mark format.count row ((spot_at all row).period) (cell_at cells format.columns.last_stock)))

-- ---- what a row says

-- what a place may keep: nothing if both cells are empty
abbrev pub keep_of : Option Mark → List ℕ → List ℕ → Option KeepEntry
keep_of mark most cost =
    if is_filled most || is_filled cost
    then Some (record { most = limit (read_limit mark most); cost = amount (read_amount mark cost) })
    else None

-- what a row says
abbrev pub place_time : PlaceFormat → List Spot → ℕ → List (List ℕ) → PlaceTime
place_time format all row cells = record {
  place = (spot_at all row).place;
  period = (spot_at all row).period;
  keep = keep_of format.mark (cell_at cells format.columns.keep_most) (cell_at cells format.columns.keep_cost);
  first = amount (read_amount format.mark (cell_at cells format.columns.first_stock));
  last = amount (read_amount format.mark (cell_at cells format.columns.last_stock));
}

-- what all rows say
abbrev pub place_times : PlaceFormat → List Spot → List Record → List PlaceTime
place_times format all records = map (λ row. place_time format all row (cells_of records row)) (rows records)

-- the faults of all rows
abbrev pub all_place_faults : PlaceFormat → List Spot → List Record → List PeriodFault
all_place_faults format all records = flat_map (λ row. place_faults format all row (cells_of records row)) (rows records)
