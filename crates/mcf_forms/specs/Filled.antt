-- Columns that are filled down.
-- Source: own
use Rattle.std.specs.Prelude.{ℕ, zero, suc, ◌+◌, ◌==◌, max, Bool, not, ◌&&◌, if◌then◌else◌, List, [], ◌∷◌, ◌++◌, length, count_by, map, slice_index_or, Option, Some, None, option_map}
use Rattle.std.specs.List.{range_with_len}
use Rattle.mcf_table.specs.Heads.{cells_of}
use Rattle.mcf_table.specs.Texts.{Record, is_filled, no_record}
use Rattle.mcf_forms.specs.Cells.{cell_at, first_column}
use Rattle.mcf_forms.specs.declared.columns.Filling.{Filling}

-- What a row below the heads has in a column: its cell, or what the row above has if that is empty.
-- The heads have nothing.
unfoldable pub value_at : List Record → ℕ → ℕ → List ℕ
value_at records place zero = []
value_at records place (suc row) =
    if is_filled (cell_at records (suc row) place) then cell_at records (suc row) place else value_at records place row

-- the row takes a cell from above: its own is empty, and one above isn't
unfoldable pub takes : List Record → ℕ → ℕ → Bool
takes records place row = not (is_filled (cell_at records row place)) && is_filled (value_at records place row)

-- the cells with this one at the place, after empty cells if they are fewer
unfoldable pub with_cell : ℕ → List ℕ → List (List ℕ) → List (List ℕ)
with_cell place cell cells =
    map (λ other. if other == place then cell else slice_index_or cells other []) (range_with_len 0 (max (length cells) (place + 1)))

-- the row with the cell that it takes, if it takes one
unfoldable pub filled_row : List Record → ℕ → ℕ → Record
filled_row records place row =
    if takes records place row
    then record { line = (slice_index_or records row no_record).line; cells = with_cell place (value_at records place row) (cells_of records row) }
    else slice_index_or records row no_record

-- the rows, each with the cell that it takes
abbrev pub filled_down : ℕ → List Record → List Record
filled_down place records = map (filled_row records place) (range_with_len 0 (length records))

-- how many cells are taken
abbrev pub taken_count : ℕ → List Record → ℕ
taken_count place records = count_by (takes records place) (range_with_len 0 (length records))

-- the rows with the column at this place filled down, if there is one
abbrev pub filled_at : Option ℕ → List Record → List Record
filled_at None records = records
filled_at (Some place) records = filled_down place records

-- the rows with the first column of this head filled down
abbrev pub filled_under : List ℕ → List Record → List Record
filled_under head records = filled_at (first_column head records) records

-- the rows with the columns of these heads filled down, one after another
abbrev pub filled_columns : List (List ℕ) → List Record → List Record
filled_columns [] records = records
filled_columns (head ∷ heads) records = filled_columns heads (filled_under head records)

-- the column at this place, if there is one, and how many of its cells take one from above
abbrev pub filling_at : List Record → ℕ → Filling
filling_at records place = record { place = place; count = taken_count place records }

-- the column of this head, if there is one
abbrev pub filling_under : List ℕ → List Record → Option Filling
filling_under head records = option_map (filling_at records) (first_column head records)

-- a column, if there is one
abbrev pub filling_list : Option Filling → List Filling
filling_list None = []
filling_list (Some column) = column ∷ []

-- the columns of these heads that the table has, filled down one after another
abbrev pub fillings : List (List ℕ) → List Record → List Filling
fillings [] records = []
fillings (head ∷ heads) records = filling_list (filling_under head records) ++ fillings heads (filled_under head records)
