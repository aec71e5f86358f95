-- The kept lines of a text, as numbered lists of fields.
-- Source: own
use Rattle.std.specs.Prelude.{ℕ, ◌+◌, Bool, List, [], ◌∷◌, map, length, filter, bytes_eq, slice_index_or, ℤ, pos, negsuc, if◌then◌else◌}
use Rattle.mcf_text.specs.Lines.{lines_of, numbered_lines}
use Rattle.mcf_text.specs.Fields.{fields_of, is_kept}
use Rattle.mcf_text.specs.Whole.{is_whole, whole_value}

-- a kept line: its number in the text, and its fields
pub record Row : Type 0 where
  pub number : ℕ
  pub fields : List (List ℕ)

-- the line of a number and bytes, as a row
abbrev pub row_of : ℕ × List ℕ → Row
row_of line = record { number = line.0; fields = fields_of line.1 }

-- the lines that are neither blank nor comments, each with its number
abbrev pub kept_lines : List ℕ → List (ℕ × List ℕ)
kept_lines text = filter (λ line. is_kept line.1) (numbered_lines 1 text)

-- the kept lines of a text
abbrev pub rows : List ℕ → List Row
rows text = map row_of (kept_lines text)

-- the number of the line after the last, kept or not
abbrev pub line_after : List ℕ → ℕ
line_after text = length (lines_of text) + 1

-- the field at a place, from 0; no bytes past the last
abbrev pub field : Row → ℕ → List ℕ
field row k = slice_index_or row.fields k []

-- the first field is this word
abbrev pub begins : List ℕ → Row → Bool
begins word row = bytes_eq (field row 0) word

-- the number that a field says, 0 where it is no whole number
abbrev pub number : Row → ℕ → ℤ
number row k = if is_whole (field row k) then whole_value (field row k) else pos 0

-- a number as a natural number, and 0 for what is below 0
abbrev pub natural : ℤ → ℕ
natural (pos n) = n
natural (negsuc n) = 0

-- the number that a field says as the number of a node or an arc; 0 is none
abbrev pub node : Row → ℕ → ℕ
node row k = natural (number row k)

-- each item of a list with those before it
abbrev pub with_earlier : {X : Type 0} → List X → List (List X × X)
with_earlier [] = []
with_earlier (x ∷ xs) = ([], x) ∷ map (λ p. (x ∷ p.0, p.1)) (with_earlier xs)
