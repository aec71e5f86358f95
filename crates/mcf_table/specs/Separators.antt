-- What separates the fields of a text, as its heads show.
-- Source: own
use Rattle.std.specs.Prelude.{◌≡◌, ℕ, ◌<◌, ◌==◌, Bool, ◌||◌, ◌⊎◌, if◌then◌else◌, nat_lt, List, [], ◌∷◌, ◌++◌, length, take, filter, reverse, count_by, slice_index_or, All}
use Rattle.std.specs.List.{list_any, slice_split}
use Rattle.std.specs.Str.{str_eq_ignore_ascii_case}
use Rattle.mcf_text.specs.Lines.{line_feed}
use Rattle.mcf_table.specs.Blanks.{trimmed}
use Rattle.mcf_table.specs.LineEnds.{carriage_return, unmarked}
use Rattle.mcf_table.specs.Rows.{quote}
use Rattle.mcf_table.specs.Texts.{is_filled}

-- what heads may show as their separator: a comma, a semicolon, a tab
abbrev pub shown_separators : List ℕ
shown_separators = 44 ∷ 59 ∷ 9 ∷ []

-- the byte ends a line; between a carriage return and its line feed stands an empty one
abbrev pub ends_line : ℕ → Bool
ends_line b = b == line_feed || b == carriage_return

-- the line isn't blank
abbrev pub is_written : List ℕ → Bool
is_written line = is_filled (trimmed line)

-- the lines that aren't blank, of a text without a byte order mark
abbrev pub written_lines : List ℕ → List (List ℕ)
written_lines text = filter is_written (slice_split ends_line text)

-- the first line that isn't blank; empty if there is none
abbrev pub first_line : List ℕ → List ℕ
first_line text = slice_index_or (written_lines (unmarked text)) 0 []

-- the lines that may have the heads: the first ten that aren't blank
abbrev pub front_lines : List ℕ → List (List ℕ)
front_lines text = take 10 (written_lines (unmarked text))

-- the text without the quotes with which it begins
abbrev pub front_unquoted : List ℕ → List ℕ
front_unquoted [] = []
front_unquoted (b ∷ bs) = if b == quote then front_unquoted bs else b ∷ bs

-- the text without the quotes with which it ends
abbrev pub back_unquoted : List ℕ → List ℕ
back_unquoted text = reverse (front_unquoted (reverse text))

-- the part is this head, without blanks at its ends, and without quotes there then
abbrev pub is_head : List ℕ → List ℕ → Bool
is_head head part = str_eq_ignore_ascii_case (back_unquoted (front_unquoted (trimmed part))) head

-- the parts of the line between these bytes
abbrev pub parts_of : ℕ → List ℕ → List (List ℕ)
parts_of byte line = slice_split (λ b. b == byte) line

-- how many of the wanted heads are among these parts
abbrev pub wanted_count : List (List ℕ) → List (List ℕ) → ℕ
wanted_count wanted parts = count_by (λ head. list_any (is_head head) parts) wanted

-- of these lines the first that the byte splits into most of the wanted heads; empty if there is
-- none
abbrev pub head_line : List (List ℕ) → ℕ → List (List ℕ) → List ℕ
head_line wanted byte [] = []
head_line wanted byte (line ∷ []) = line
head_line wanted byte (line ∷ other ∷ lines) =
    if nat_lt (wanted_count wanted (parts_of byte line)) (wanted_count wanted (parts_of byte (head_line wanted byte (other ∷ lines))))
    then head_line wanted byte (other ∷ lines)
    else line

-- the parts of that line
abbrev pub head_parts : List (List ℕ) → List (List ℕ) → ℕ → List (List ℕ)
head_parts lines wanted byte = parts_of byte (head_line wanted byte lines)

-- the first parts have more of the wanted heads than the second, or as many, and are more
abbrev pub AreBetter : List (List ℕ) → List (List ℕ) → List (List ℕ) → Type 0
AreBetter wanted parts other =
    (wanted_count wanted other < wanted_count wanted parts)
    ⊎ ((wanted_count wanted other ≡ wanted_count wanted parts) × (length other < length parts))

-- The byte is the first of a comma, a semicolon and a tab that splits one of these lines best:
-- better than each before it, and no worse than each after it.
pub record SplitsBest (lines : List (List ℕ)) (wanted : List (List ℕ)) (byte : ℕ) : Type 0 where
  pub front : List ℕ
  pub back : List ℕ
  pub among : shown_separators ≡ front ++ byte ∷ back
  pub better : All (λ other. AreBetter wanted (head_parts lines wanted byte) (head_parts lines wanted other)) front
  pub no_worse : All (λ other. ¬ AreBetter wanted (head_parts lines wanted other) (head_parts lines wanted byte)) back
