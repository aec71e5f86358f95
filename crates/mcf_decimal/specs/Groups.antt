-- Whole numbers with something between their thousands.
-- Source: own
use Rattle.std.specs.Prelude.{ℕ, zero, suc, ◌+◌, ◌==◌, nat_le, nat_lt, Bool, not, ◌&&◌, ◌||◌, if◌then◌else◌, List, [], ◌∷◌, length, take, drop, Option, Some, None, count_by}
use Rattle.std.specs.Char.{is_ascii_digit}
use Rattle.std.specs.List.{list_all, position_or_len}
use Rattle.mcf_decimal.specs.declared.mark.Mark.{Mark}
use Rattle.mcf_decimal.specs.Marks.{byte_of}
use Rattle.mcf_decimal.specs.Signs.{front_len}
use Rattle.mcf_text.specs.Whole.{is_numeral}

-- a number has at most this many digits before its mark, and after it
abbrev pub digit_limit : ℕ
digit_limit = 1000

-- What may stand between thousands beside a mark, in UTF-8: a space, an apostrophe, an underscore,
-- the space that doesn't break (U+00A0), the thin space (U+2009), the narrow space that doesn't
-- break (U+202F), the printed apostrophe (U+2019).
abbrev pub blanks : List (List ℕ)
blanks =
    (32 ∷ []) ∷ (39 ∷ []) ∷ (95 ∷ []) ∷ (194 ∷ 160 ∷ []) ∷ (226 ∷ 128 ∷ 137 ∷ [])
    ∷ (226 ∷ 128 ∷ 175 ∷ []) ∷ (226 ∷ 128 ∷ 153 ∷ []) ∷ []

-- what stands between thousands: this mark, or any of the blanks, which a number may mix
abbrev pub separators : Option Mark → List (List ℕ)
separators (Some mark) = (byte_of mark ∷ []) ∷ []
separators None = blanks

-- one digit or more, at most `digit_limit`, and nothing else
unfoldable pub is_digits : List ℕ → Bool
is_digits bytes = is_numeral bytes && nat_le (length bytes) digit_limit

-- the bytes begin with three digits
unfoldable pub has_triple : List ℕ → Bool
has_triple bytes = nat_le 3 (length bytes) && list_all is_ascii_digit (take 3 bytes)

-- how long the separator and the three digits are with which the text begins; 0 if it doesn't
unfoldable pub group_len : List (List ℕ) → List ℕ → ℕ
group_len words text =
    if nat_lt 0 (front_len words text) && has_triple (drop (front_len words text) text) then front_len words text + 3 else 0

-- the text is at most so many groups of a separator and three digits
abbrev pub are_groups_up_to : ℕ → List (List ℕ) → List ℕ → Bool
are_groups_up_to zero words text = length text == 0
are_groups_up_to (suc n) words text =
    length text == 0 || (nat_lt 0 (group_len words text) && are_groups_up_to n words (drop (group_len words text) text))

-- the text is groups of a separator and three digits, or nothing
unfoldable pub are_groups : List (List ℕ) → List ℕ → Bool
are_groups words text = are_groups_up_to (length text) words text

-- how many digits stand at the front
unfoldable pub lead : List ℕ → ℕ
lead text = position_or_len (λ b. not (is_ascii_digit b)) text

-- one to three digits stand at the front, and something follows
unfoldable pub has_lead : List ℕ → Bool
has_lead text = nat_lt 0 (lead text) && nat_le (lead text) 3 && nat_lt (lead text) (length text)

-- one to three digits and then a group or more, with at most `digit_limit` digits in all
unfoldable pub is_grouped : List (List ℕ) → List ℕ → Bool
is_grouped words text =
    has_lead text && nat_le (count_by is_ascii_digit text) digit_limit && are_groups words (drop (lead text) text)
