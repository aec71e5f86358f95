-- The separator that a text names in its first line.
-- Source: own, after the lines that spreadsheets write
use Rattle.std.specs.Prelude.{ℕ, ◌==◌, nat_lt, nat_eq, Bool, not, ◌&&◌, if◌then◌else◌, List, [], ◌∷◌, length, take, drop, slice_index, Option, Some, None}
use Rattle.std.specs.List.{starts_with}
use Rattle.std.specs.Str.{str_eq_ignore_ascii_case}
use Rattle.mcf_text.specs.Lines.{line_feed}
use Rattle.mcf_table.specs.Blanks.{trimmed}
use Rattle.mcf_table.specs.LineEnds.{carriage_return}
use Rattle.mcf_table.specs.Rows.{quote, space}
use Rattle.mcf_table.specs.Separators.{first_line}
use Rattle.mcf_table.specs.Texts.{is_filled}

-- a byte of ASCII that may separate fields (`IsSeparator`)
abbrev pub may_separate : ℕ → Bool
may_separate b = nat_lt b 128 && not (b == line_feed) && not (b == carriage_return) && not (b == space) && not (b == quote)

-- what stands in front of the separator: `sep=`, where an ASCII letter is the same in either case
abbrev pub separator_word : List ℕ
separator_word = 115 ∷ 101 ∷ 112 ∷ 61 ∷ []

-- these bytes are this end, and then blanks or nothing
abbrev pub is_end : List ℕ → List ℕ → Bool
is_end end bytes = starts_with nat_eq bytes end && not (is_filled (trimmed (drop (length end) bytes)))

-- the separator of a line that is `sep=`, the separator, this end, and then blanks or nothing
abbrev pub named_before : List ℕ → List ℕ → Option ℕ
named_before end line =
    if nat_lt 4 (length line) && str_eq_ignore_ascii_case (take 4 line) separator_word && may_separate (slice_index line 4)
    && is_end end (drop 5 line)
    then Some (slice_index line 4)
    else None

-- The separator that the first line that isn't blank names, if it names one: `sep=` and the
-- separator, perhaps both between quotes.
abbrev pub named_separator : List ℕ → Option ℕ
named_separator text =
    if starts_with nat_eq (first_line text) (quote ∷ [])
    then named_before (quote ∷ []) (drop 1 (first_line text))
    else named_before [] (first_line text)
