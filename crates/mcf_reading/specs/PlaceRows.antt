-- The rows of the table of places.
-- Source: own
use Rattle.std.specs.Prelude.{ℕ, nat_lt, Bool, false, not, ◌&&◌, ◌||◌, if◌then◌else◌, List, [], ◌++◌, map, Option, Some, None, option_map}
use Rattle.std.specs.List.{flat_map}
use Rattle.std.specs.Result.{result_err}
use Rattle.mcf_decimal.specs.declared.mark.Mark.{Mark}
use Rattle.mcf_names.specs.NameFaults.{name_fault}
use Rattle.mcf_names.specs.Names.{number_of}
use Rattle.mcf_table.specs.Heads.{cells_of}
use Rattle.mcf_table.specs.Texts.{Record, is_filled}
use Rattle.mcf_reading.specs.Cells.{amount, cell_at, limit, number_kind, read_amount, read_limit, read_penalty, rows}
use Rattle.mcf_reading.specs.Faults.{told, under}
use Rattle.mcf_reading.specs.declared.columns.PlaceColumns.{PlaceColumns}
use Rattle.mcf_reading.specs.declared.kinds.Fault.{Fault}
use Rattle.mcf_reading.specs.declared.kinds.FaultKind.{FaultKind}
use Rattle.mcf_reading.specs.declared.kinds.FaultKind.TheVariants.{Name as BadName, Twice}
use Rattle.mcf_reading.specs.declared.locations.Head.TheVariants.{Name, Supply, Least, Most, Cost, Penalty}
use Rattle.mcf_reading.specs.declared.locations.Table.TheVariants.{Places}
use Rattle.mcf_reading.specs.declared.place_rows.BoundsEntry.{BoundsEntry}
use Rattle.mcf_reading.specs.declared.place_rows.BoundsRead.{BoundsRead}
use Rattle.mcf_reading.specs.declared.place_rows.PlaceEntry.{PlaceEntry}
use Rattle.mcf_reading.specs.declared.place_rows.PlaceRead.{PlaceRead}

-- the names of places, in order: place n is that of row n
unfoldable pub place_names : PlaceColumns → List Record → List (List ℕ)
place_names columns records = map (λ row. cell_at (cells_of records row) columns.name) (rows records)

-- why a cell isn't a name
unfoldable pub name_kind : List ℕ → Option FaultKind
name_kind cell = option_map BadName (name_fault cell)

-- the number is below this one
abbrev pub is_before : Option ℕ → ℕ → Bool
is_before None number = false
is_before (Some first) number = nat_lt first number

-- An earlier row has the name, which isn't empty. Over periods a place may have several rows.
unfoldable pub twice_kind : Bool → List (List ℕ) → ℕ → List ℕ → Option FaultKind
twice_kind over names number cell =
    if not over && (is_filled cell && is_before (number_of cell names) number) then Some Twice else None

-- a cell of a place's bounds isn't empty
abbrev pub is_bounded : List ℕ → List ℕ → List ℕ → Bool
is_bounded least most cost = is_filled least || (is_filled most || is_filled cost)

-- the bounds of a place, if it has some
unfoldable pub read_bounds : Option Mark → List ℕ → List ℕ → List ℕ → Option BoundsRead
read_bounds mark least most cost =
    if is_bounded least most cost
    then Some (record { least = read_amount mark least; most = read_limit mark most; cost = read_amount mark cost })
    else None

-- the numbers of a row
unfoldable pub read_place : Option Mark → PlaceColumns → List (List ℕ) → PlaceRead
read_place mark columns cells = record {
  supply = read_amount mark (cell_at cells columns.supply);
  through = read_bounds mark (cell_at cells columns.least) (cell_at cells columns.most) (cell_at cells columns.cost);
  penalty = read_penalty mark (cell_at cells columns.penalty);
}

-- bounds, with 0 for what wasn't read
abbrev pub bounds_entry : BoundsRead → BoundsEntry
bounds_entry read = record { least = amount read.least; most = limit read.most; cost = amount read.cost }

-- a place, with 0 for what wasn't read
unfoldable pub place_entry : PlaceRead → PlaceEntry
place_entry read = record { supply = amount read.supply; through = option_map bounds_entry read.through; penalty = limit read.penalty }

-- the faults of bounds
abbrev pub bounds_faults : ℕ → Option BoundsRead → List Fault
bounds_faults row None = []
bounds_faults row (Some read) =
    told (under Places row Least) (number_kind (result_err read.least))
    ++ told (under Places row (Most 1)) (number_kind (result_err read.most))
    ++ told (under Places row (Cost 1)) (number_kind (result_err read.cost))

-- the faults of a row's numbers
unfoldable pub place_number_faults : ℕ → PlaceRead → List Fault
place_number_faults row read =
    told (under Places row Supply) (number_kind (result_err read.supply))
    ++ (bounds_faults row read.through ++ told (under Places row Penalty) (number_kind (result_err read.penalty)))

-- the faults of a row's name
unfoldable pub place_name_faults : Bool → List (List ℕ) → ℕ → List ℕ → List Fault
place_name_faults over names row cell =
    told (under Places row Name) (name_kind cell) ++ told (under Places row Name) (twice_kind over names row cell)

-- the faults of a row
unfoldable pub place_faults : Option Mark → PlaceColumns → List (List ℕ) → ℕ → List (List ℕ) → List Fault
place_faults mark columns names row cells =
    place_name_faults columns.over_periods names row (cell_at cells columns.name) ++ place_number_faults row (read_place mark columns cells)

-- the places, in order
abbrev pub place_entries : Option Mark → PlaceColumns → List Record → List PlaceEntry
place_entries mark columns records =
    map (λ row. place_entry (read_place mark columns (cells_of records row))) (rows records)

-- the faults of all rows
abbrev pub all_place_faults : Option Mark → PlaceColumns → List (List ℕ) → List Record → List Fault
all_place_faults mark columns names records =
    flat_map (λ row. place_faults mark columns names row (cells_of records row)) (rows records)
