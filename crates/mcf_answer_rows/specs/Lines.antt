-- The text of rows, row by row.
-- Source: own
use Rattle.std.specs.Prelude.{ℕ, List, [], ◌∷◌, ◌++◌}
use Rattle.mcf_table.specs.Written.{row_text}

-- what separates the cells of a row
abbrev pub comma : ℕ
comma = 44

-- the text of a row: its cells, each between quotes, and a line feed
unfoldable pub row_line : List (List ℕ) → List ℕ
row_line row = row_text comma row ++ 10 ∷ []

-- the text of rows
abbrev pub rows_text : List (List (List ℕ)) → List ℕ
rows_text [] = []
rows_text (row ∷ rows) = row_line row ++ rows_text rows
