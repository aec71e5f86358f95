-- The mark before decimals that both tables show.
-- Source: own
use Rattle.std.specs.Prelude.{ℕ, List, [], ◌∷◌, ◌++◌, map, codes, find, slice_get, Option, Some, None, Result, Ok, Err, option_map}
use Rattle.std.specs.List.{filter_map, flat_map}
use Rattle.mcf_decimal.specs.Marks.{other}
use Rattle.mcf_decimal.specs.Numbers.{mark_in}
use Rattle.mcf_decimal.specs.Settled.{is_the}
use Rattle.mcf_decimal.specs.declared.mark.Mark.{Mark}
use Rattle.mcf_table.specs.Heads.{cells_of, column_of, only_place}
use Rattle.mcf_table.specs.Texts.{Record}
use Rattle.mcf_reading.specs.Cells.{cell_at, rows}
use Rattle.mcf_reading.specs.Columns.{place_under}
use Rattle.mcf_reading.specs.HeadTexts.{all_steps, step_heads}
use Rattle.mcf_reading.specs.declared.columns.NumberColumn.{NumberColumn}
use Rattle.mcf_reading.specs.declared.kinds.Fault.{Fault}
use Rattle.mcf_reading.specs.declared.kinds.FaultKind.TheVariants.{BothMarks}
use Rattle.mcf_reading.specs.declared.locations.ColumnAt.TheVariants.{Placed, Under}
use Rattle.mcf_reading.specs.declared.locations.Head.{Head}
use Rattle.mcf_reading.specs.declared.locations.Head.TheVariants.{Supply, Least, Most, Cost, Penalty}
use Rattle.mcf_reading.specs.declared.locations.Location.{Location}
use Rattle.mcf_reading.specs.declared.locations.Table.{Table}
use Rattle.mcf_reading.specs.declared.locations.Table.TheVariants.{Places, Routes}

-- the heads of the columns of numbers in the table of places, in the order in which cells are read
abbrev pub place_number_heads : List Head
place_number_heads = Supply ∷ Least ∷ Most 1 ∷ Cost 1 ∷ Penalty ∷ []

-- those of the table of routes
abbrev pub route_number_heads : List Record → List Head
route_number_heads records = Least ∷ flat_map step_heads (all_steps records)

-- the texts of the heads of columns of numbers about periods in the table of places
abbrev pub place_period_heads : List (List ℕ)
place_period_heads = codes "keep most" ∷ codes "keep cost" ∷ codes "first stock" ∷ codes "last stock" ∷ []

-- that of the table of routes
abbrev pub route_period_heads : List (List ℕ)
route_period_heads = codes "lead" ∷ []

-- a column of numbers, under its head, and its place
abbrev pub number_column : List Record → Head → NumberColumn
number_column records head = record { column = Under head; place = place_under records head }

-- a column of numbers about periods, by its place; none if there is none
abbrev pub placed_column : Option ℕ → List NumberColumn
placed_column None = []
placed_column (Some place) = record { column = Placed place; place = Some place } ∷ []

-- the columns of numbers about periods with these heads
abbrev pub period_columns : List Record → List (List ℕ) → List NumberColumn
period_columns records heads = flat_map (λ head. placed_column (only_place (column_of head records))) heads

-- the columns of numbers in the table of places, those about periods last
abbrev pub place_number_columns : List Record → List NumberColumn
place_number_columns records = map (number_column records) place_number_heads ++ period_columns records place_period_heads

-- those of the table of routes
abbrev pub route_number_columns : List Record → List NumberColumn
route_number_columns records = map (number_column records) (route_number_heads records) ++ period_columns records route_period_heads

-- a cell with its location
pub record Located : Type 0 where
  pub at : Location
  pub cell : List ℕ

-- a row's cell in a column of numbers
abbrev pub number_cell : Table → List Record → ℕ → NumberColumn → Located
number_cell table records row column = record {
  at = record { table = table; row = row; column = column.column };
  cell = cell_at (cells_of records row) column.place;
}

-- a row's cells in columns of numbers
abbrev pub row_numbers : Table → List Record → List NumberColumn → ℕ → List Located
row_numbers table records columns row = map (number_cell table records row) columns

-- a table's cells in columns of numbers, row by row
abbrev pub table_numbers : Table → List Record → List NumberColumn → List Located
table_numbers table records columns = flat_map (row_numbers table records columns) (rows records)

-- the cells of both tables that should be numbers, those about periods among them
unfoldable pub number_cells : List Record → List Record → List Located
number_cells places routes =
    table_numbers Places places (place_number_columns places) ++ table_numbers Routes routes (route_number_columns routes)

-- the first mark that cells show
abbrev pub first_mark : List Located → Option Mark
first_mark cells = slice_get (filter_map (λ c. mark_in c.cell) cells) 0

-- the first cell that shows the other mark than this one
abbrev pub first_other : Mark → List Located → Option Location
first_other mark cells = option_map (λ c. c.at) (find (λ c. is_the (other mark) (mark_in c.cell)) cells)

-- this mark, unless a cell shows the other
abbrev pub unless_both : Mark → Option Location → Result (Option Mark) Fault
unless_both mark None = Ok (Some mark)
unless_both mark (Some location) = Err (record { at = location; kind = BothMarks })

-- the mark that the cells show; none if none shows one; a fault of the second if they show both
abbrev pub shown_mark : Option Mark → List Located → Result (Option Mark) Fault
shown_mark None cells = Ok None
shown_mark (Some mark) cells = unless_both mark (first_other mark cells)

-- the mark that is named, or else the one that the cells show
abbrev pub settled_mark : Option Mark → List Located → Result (Option Mark) Fault
settled_mark (Some mark) cells = Ok (Some mark)
settled_mark None cells = shown_mark (first_mark cells) cells
