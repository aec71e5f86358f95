-- The columns of a table: its first row has their heads.
-- Source: own
use Rattle.std.specs.Prelude.{ℕ, ◌-◌, Bool, true, false, List, [], ◌∷◌, length, filter, map, slice_index_or, Option, Some, None}
use Rattle.std.specs.List.{flat_map, range_with_len}
use Rattle.std.specs.Str.{str_eq_ignore_ascii_case}
use Rattle.mcf_table.specs.Texts.{Record, is_filled, no_record}
use Rattle.mcf_table.specs.declared.heads.CellPlace.{CellPlace}
use Rattle.mcf_table.specs.declared.heads.Column.{Column}
use Rattle.mcf_table.specs.declared.heads.Column.TheVariants.{Missing, Twice, At}

-- the cells of a row, counted from 0
abbrev pub cells_of : List Record → ℕ → List (List ℕ)
cells_of records row = (slice_index_or records row no_record).cells

-- the heads of the columns: the cells of the first row, if there is one
abbrev pub heads : List Record → List (List ℕ)
heads records = cells_of records 0

-- the head at a place, from 0; empty if there are fewer
abbrev pub head_at : List Record → ℕ → List ℕ
head_at records place = slice_index_or (heads records) place []

-- the places of the cells that are this head, where an ASCII letter is the same in either case
abbrev pub places_of : List ℕ → List (List ℕ) → List ℕ
places_of head cells =
    filter (λ place. str_eq_ignore_ascii_case (slice_index_or cells place []) head) (range_with_len 0 (length cells))

-- the column whose head stands at these places
abbrev pub column_at : List ℕ → Column
column_at [] = Missing
column_at (place ∷ []) = At place
column_at (place ∷ other ∷ places) = Twice

-- the column with this head
abbrev pub column_of : List ℕ → List Record → Column
column_of head records = column_at (places_of head (heads records))

-- one column or more has the head
abbrev pub is_there : Column → Bool
is_there Missing = false
is_there Twice = true
is_there (At place) = true

-- the place of a column, if just one has its head
abbrev pub only_place : Column → Option ℕ
only_place Missing = None
only_place Twice = None
only_place (At place) = Some place

-- the places of the cells that aren't empty, from this place on
abbrev pub filled_from : ℕ → List (List ℕ) → List ℕ
filled_from first cells =
    filter (λ place. is_filled (slice_index_or cells place [])) (range_with_len first (length cells - first))

-- the row's cells at these places
abbrev pub in_row : ℕ → List ℕ → List CellPlace
in_row row places = map (λ place. record { row = row; place = place }) places

-- the cells that aren't empty and stand beyond the last head, row by row
abbrev pub beyond : List Record → List CellPlace
beyond records =
    flat_map (λ row. in_row row (filled_from (length (heads records)) (cells_of records row))) (range_with_len 0 (length records))
