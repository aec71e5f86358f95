-- Tables that an answer repeats, and their mark before decimals.
-- Source: own
use Rattle.std.specs.Prelude.{ℕ, List, [], ◌∷◌, codes, decimal, map, Option, Some, None}
use Rattle.mcf_decimal.specs.Marks.{byte_of}
use Rattle.mcf_decimal.specs.declared.mark.Mark.{Mark}
use Rattle.mcf_table.specs.Texts.{Record}
use Rattle.mcf_answer_rows.specs.AnswerRows.{number_row}

-- the mark as a cell; empty, if none is named or shown
abbrev pub mark_text : Option Mark → List ℕ
mark_text (Some mark) = byte_of mark ∷ []
mark_text None = []

-- the mark before decimals
abbrev pub mark_row : Option Mark → List (List ℕ)
mark_row mark = number_row (codes "mark") (mark_text mark)

-- a row of a table: a word, the table, the line on which it begins, and its cells
abbrev pub record_row : List ℕ → List ℕ → Record → List (List ℕ)
record_row word table r = word ∷ table ∷ decimal r.line ∷ r.cells

-- the rows of a table, in order: `heads` the first, `row` each of the others
abbrev pub repeated_rows : List ℕ → List Record → List (List (List ℕ))
repeated_rows table [] = []
repeated_rows table (heads ∷ rows) = record_row (codes "heads") table heads ∷ map (record_row (codes "row") table) rows
