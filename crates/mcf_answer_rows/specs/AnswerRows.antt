-- The rows and cells that texts of answers share.
-- Source: own
use Rattle.std.specs.Prelude.{ℕ, List, [], ◌∷◌, codes, max, slice_index_or}
use Rattle.mcf_reading.specs.Cells.{cell_at}
use Rattle.mcf_table.specs.Heads.{cells_of, column_of, only_place}
use Rattle.mcf_table.specs.Texts.{Record, no_record}

-- the line on which a row begins; the first, if the table has no such row
abbrev pub line_at : List Record → ℕ → ℕ
line_at records row = max (slice_index_or records row no_record).line 1

-- the cell of a row in the column with this head
abbrev pub cell_under : List ℕ → List Record → ℕ → List ℕ
cell_under head records row = cell_at (cells_of records row) (only_place (column_of head records))

-- what kind of answer it is
abbrev pub answer_row : List ℕ → List (List ℕ)
answer_row kind = codes "answer" ∷ kind ∷ []

-- a number of the answer, under its name
abbrev pub number_row : List ℕ → List ℕ → List (List ℕ)
number_row name number = name ∷ number ∷ []
