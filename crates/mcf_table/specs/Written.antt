-- Tables as texts.
-- Source: own, after RFC 4180
use Rattle.std.specs.Prelude.{◌≡◌, ℕ, ◌+◌, true, List, [], ◌∷◌, ◌++◌, map, All}
use Rattle.std.specs.List.{list_any}
use Rattle.mcf_text.specs.Lines.{line_feed}
use Rattle.mcf_table.specs.Blanks.{trimmed}
use Rattle.mcf_table.specs.LineEnds.{line_feeds}
use Rattle.mcf_table.specs.Rows.{ended, quoted}
use Rattle.mcf_table.specs.Texts.{Record, is_filled}

-- the cells, each between quotes, with a separator between them
abbrev pub row_text : ℕ → List (List ℕ) → List ℕ
row_text separator [] = []
row_text separator (cell ∷ []) = quoted 0 cell
row_text separator (cell ∷ other ∷ cells) = quoted 0 cell ++ separator ∷ row_text separator (other ∷ cells)

-- cells of a row after its first, each between quotes, after a separator
abbrev pub further_text : ℕ → List (List ℕ) → List ℕ
further_text separator [] = []
further_text separator (cell ∷ cells) = separator ∷ quoted 0 cell ++ further_text separator cells

-- the rows, each ended by a line feed
abbrev pub table_text : ℕ → List (List (List ℕ)) → List ℕ
table_text separator rows = ended line_feed (map (row_text separator) rows)

-- the rows with their lines in the written text, from this line on
abbrev pub records_from : ℕ → ℕ → List (List (List ℕ)) → List Record
records_from separator line [] = []
records_from separator line (row ∷ rows) =
    record { line = line; cells = row } ∷ records_from separator (line + line_feeds (row_text separator row) + 1) rows

-- no blank stands at the ends of the cell
abbrev pub IsBare : List ℕ → Type 0
IsBare cell = trimmed cell ≡ cell

-- a cell isn't empty, and no blank stands at the ends of any
abbrev pub IsWritable : List (List ℕ) → Type 0
IsWritable row = (list_any is_filled row ≡ true) × All IsBare row
