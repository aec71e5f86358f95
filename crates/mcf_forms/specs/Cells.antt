-- The cells of a table, and words in them.
-- Source: own
use Rattle.std.specs.Prelude.{ℕ, ◌-◌, Bool, List, [], ◌∷◌, codes, find, length, map, slice_index_or, Option, Some, None}
use Rattle.std.specs.List.{list_any, range_with_len}
use Rattle.std.specs.Str.{bytes_eq, str_eq_ignore_ascii_case}
use Rattle.mcf_table.specs.Heads.{cells_of, head_at, heads}
use Rattle.mcf_table.specs.Texts.{Record, no_record}

-- the cell of a row at a place, both counted from 0; empty if the row is shorter
abbrev pub cell_at : List Record → ℕ → ℕ → List ℕ
cell_at records row place = slice_index_or (cells_of records row) place []

-- the line of a row
abbrev pub line_of : List Record → ℕ → ℕ
line_of records row = (slice_index_or records row no_record).line

-- the rows below the heads and above this one
abbrev pub rows_above : ℕ → List ℕ
rows_above row = range_with_len 1 (row - 1)

-- the cells of a column below the heads; none if the table lacks the column
abbrev pub cells_in : List Record → Option ℕ → List (List ℕ)
cells_in records None = []
cells_in records (Some place) = map (λ row. cell_at records row place) (rows_above (length records))

-- the places of the columns
abbrev pub columns : List Record → List ℕ
columns records = range_with_len 0 (length (heads records))

-- the cell is one of these words, where an ASCII letter is the same in either case
abbrev pub is_word : List (List ℕ) → List ℕ → Bool
is_word words cell = list_any (str_eq_ignore_ascii_case cell) words

-- an empty cell, and a hyphen or a dash (U+2013, U+2014)
abbrev pub dashes : List (List ℕ)
dashes = [] ∷ codes "-" ∷ (226 ∷ 128 ∷ 147 ∷ []) ∷ (226 ∷ 128 ∷ 148 ∷ []) ∷ []

-- the cell is empty or a dash
abbrev pub is_dash : List ℕ → Bool
is_dash cell = list_any (bytes_eq cell) dashes

-- the cell stands for nothing: it is x, empty or a dash
abbrev pub is_nothing : List ℕ → Bool
is_nothing cell = list_any (bytes_eq cell) (codes "x" ∷ codes "X" ∷ dashes)

-- the place of the first column with this head, where an ASCII letter is the same in either case
abbrev pub first_column : List ℕ → List Record → Option ℕ
first_column head records = find (λ place. str_eq_ignore_ascii_case (head_at records place) head) (columns records)
