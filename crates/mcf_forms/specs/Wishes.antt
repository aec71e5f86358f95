-- A sheet of wishes: a row for each person, with what the person wishes first, second and so on.
-- Source: own
use Rattle.std.specs.Prelude.{◌≡◌, ℕ, ◌+◌, ◌==◌, nat_le, nat_lt, max, Bool, true, false, not, ◌&&◌, ◌||◌, if◌then◌else◌, List, [], ◌∷◌, length, drop, count_by, filter, find, map, codes, decimal, slice_index_or, unwrap_or, Option, Some, None}
use Rattle.std.specs.List.{flat_map, list_all, range_with_len}
use Rattle.std.specs.Option.{is_some}
use Rattle.std.specs.Str.{str_eq_ignore_ascii_case}
use Rattle.mcf_decimal.specs.declared.mark.Mark.TheVariants.{Point, Comma}
use Rattle.mcf_table.specs.HeadRows.{head_row}
use Rattle.mcf_table.specs.Heads.{cells_of, column_of, head_at, heads, is_there, only_place}
use Rattle.mcf_table.specs.Texts.{Record, is_filled}
use Rattle.mcf_forms.specs.Cells.{cell_at, cells_in, columns, first_column, is_dash, is_nothing, line_of, rows_above}
use Rattle.mcf_forms.specs.Ranks.{rank_of}
use Rattle.mcf_forms.specs.Sums.{is_readable}
use Rattle.mcf_forms.specs.declared.wishes.WishList.{WishList}

-- ---- the heads

-- the ranks that the heads say, column by column; 0 for a head that says none
abbrev pub column_ranks : List Record → List ℕ
column_ranks records = map (λ place. rank_of (head_at records place)) (columns records)

-- the rank of a column; 0 if its head says none
abbrev pub rank_at : List Record → ℕ → ℕ
rank_at records place = slice_index_or (column_ranks records) place 0

-- the number is a rank
abbrev pub is_rank : ℕ → Bool
is_rank number = not (number == 0)

-- the rank at this place, counted from 0, is one more than the place
unfoldable pub is_in_order : List ℕ → ℕ → Bool
is_in_order ranks place = slice_index_or ranks place 0 == place + 1

-- the ranks are 1, 2 and so on, two or more
unfoldable pub are_ranks : List ℕ → Bool
are_ranks ranks = nat_le 2 (length ranks) && list_all (is_in_order ranks) (range_with_len 0 (length ranks))

-- The heads are those of a sheet of wishes: one is `who`, none is `what` or `cost`, and those that
-- say a rank say 1, 2 and so on, in the order of columns.
unfoldable pub has_wish_heads : List Record → Bool
has_wish_heads records =
    is_some (only_place (column_of (codes "who") records))
    && (not (is_there (column_of (codes "what") records))
    && (not (is_there (column_of (codes "cost") records)) && are_ranks (filter is_rank (column_ranks records))))

-- ---- the wishes

-- the row has a wish in this column: the column has a rank, and the cell isn't empty or a dash
unfoldable pub is_wish : List Record → ℕ → ℕ → Bool
is_wish records row place = is_rank (rank_at records place) && not (is_dash (cell_at records row place))

-- the thing that the row wishes in this column, if it wishes one
abbrev pub thing_at : List Record → ℕ → ℕ → List (List ℕ)
thing_at records row place = if is_wish records row place then cell_at records row place ∷ [] else []

-- the things that the row wishes, in the order of ranks
abbrev pub things_in : List Record → ℕ → List (List ℕ)
things_in records row = flat_map (thing_at records row) (columns records)

-- the things that all rows wish
abbrev pub things : List Record → List (List ℕ)
things records = flat_map (things_in records) (rows_above (length records))

-- the cell is a number, by a point or by a comma
unfoldable pub is_numeral : List ℕ → Bool
is_numeral cell = is_readable Point cell || is_readable Comma cell

-- the cell stands for something else than a number
unfoldable pub is_name : List ℕ → Bool
is_name cell = not (is_nothing cell) && not (is_numeral cell)

-- fewer of the cells are numbers than names
unfoldable pub are_names : List (List ℕ) → Bool
are_names cells = nat_lt (count_by is_numeral cells) (count_by is_name cells)

-- the table is a sheet of wishes: it has such heads, and its wishes are names rather than numbers
unfoldable pub is_sheet : List Record → Bool
is_sheet records = has_wish_heads records && are_names (things records)

-- ---- the list

-- the place of the column of names
abbrev pub who_place : List Record → ℕ
who_place records = unwrap_or (only_place (column_of (codes "who") records)) 0

-- the column is neither that of names nor one of wishes
unfoldable pub is_own : List Record → ℕ → Bool
is_own records place = not (is_rank (rank_at records place)) && not (place == who_place records)

-- the first cell of a column `needs` that isn't empty; empty if there is none
abbrev pub needs_text : List Record → List ℕ
needs_text records = unwrap_or (find is_filled (cells_in records (first_column (codes "needs") records))) []

-- the row's cell in this column; where it is empty in a column `needs`, that one
unfoldable pub own_cell : List Record → ℕ → ℕ → List ℕ
own_cell records row place =
    if str_eq_ignore_ascii_case (head_at records place) (codes "needs") && not (is_filled (cell_at records row place))
    then needs_text records
    else cell_at records row place

-- this cell, if the column is such a one
abbrev pub own_at : List Record → ℕ → ℕ → List (List ℕ)
own_at records row place = if is_own records place then own_cell records row place ∷ [] else []

-- the cells of a row in these columns, and beyond the last column
abbrev pub own_cells : List Record → ℕ → List (List ℕ)
own_cells records row = flat_map (own_at records row) (range_with_len 0 (max (length (heads records)) (length (cells_of records row))))

-- a row of the list, for a row of the sheet, with this thing and cost
abbrev pub listed_row : List Record → ℕ → List ℕ → List ℕ → Record
listed_row records row thing cost = record {
  line = line_of records row;
  cells = cell_at records row (who_place records) ∷ thing ∷ cost ∷ own_cells records row;
}

-- the row of the list for a wish, which costs its rank, if there is one in this column
abbrev pub pair_at : List Record → ℕ → ℕ → List Record
pair_at records row place =
    if is_wish records row place then listed_row records row (cell_at records row place) (decimal (rank_at records place)) ∷ [] else []

-- the rows of the list for the wishes of a row
abbrev pub pairs_in : List Record → ℕ → List Record
pairs_in records row = flat_map (pair_at records row) (columns records)

-- the rows of the list for a person; one who wishes nothing can't have the first thing of all
unfoldable pub person_rows : List Record → ℕ → List Record
person_rows records row =
    if length (pairs_in records row) == 0
    then listed_row records row (slice_index_or (things records) 0 []) [] ∷ []
    else pairs_in records row

-- the heads of the list
abbrev pub wish_heads : List Record → Record
wish_heads records = record {
  line = line_of records 0;
  cells = codes "who" ∷ codes "what" ∷ codes "cost" ∷ own_cells records 0;
}

-- the sheet as a list: its heads, and then the rows for each person
abbrev pub wish_list : List Record → List Record
wish_list records = wish_heads records ∷ flat_map (person_rows records) (rows_above (length records))

-- ---- the table

-- the rows from the first of ten on that has the head `who`; all of them if none has
abbrev pub below_titles : List Record → List Record
below_titles records = drop (head_row 0 (codes "who" ∷ []) records) records

-- what is made of these rows: a list, or nothing if they are no sheet of wishes
abbrev pub IsListOf : List Record → Option WishList → Type 0
IsListOf records None = is_sheet records ≡ false
IsListOf records (Some list) =
    (is_sheet records ≡ true) × (list.rows ≡ wish_list records) × (list.count ≡ length (things records)) × (list.needs.items ≡ needs_text records)
