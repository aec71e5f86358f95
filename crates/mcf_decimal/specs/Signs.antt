-- The sign of a number.
-- Source: own
use Rattle.std.specs.Prelude.{ℕ, ◌==◌, nat_eq, Bool, not, ◌&&◌, if◌then◌else◌, List, [], ◌∷◌, length, drop}
use Rattle.std.specs.List.{starts_with}

-- how long the first of these words is with which the text begins; 0 if it begins with none
abbrev pub front_len : List (List ℕ) → List ℕ → ℕ
front_len [] text = 0
front_len (word ∷ words) text = if starts_with nat_eq text word then length word else front_len words text

-- The minus of the keyboard, and the characters that print one, in UTF-8: hyphens and dashes no
-- longer than a digit (U+2010 to U+2013), the minus sign (U+2212), the small and the full-width
-- hyphen (U+FE63, U+FF0D).
abbrev pub minuses : List (List ℕ)
minuses =
    (45 ∷ []) ∷ (226 ∷ 128 ∷ 144 ∷ []) ∷ (226 ∷ 128 ∷ 145 ∷ []) ∷ (226 ∷ 128 ∷ 146 ∷ [])
    ∷ (226 ∷ 128 ∷ 147 ∷ []) ∷ (226 ∷ 136 ∷ 146 ∷ []) ∷ (239 ∷ 185 ∷ 163 ∷ []) ∷ (239 ∷ 188 ∷ 141 ∷ []) ∷ []

-- how long the minus is with which the cell begins; 0 if it begins with none
unfoldable pub minus_len : List ℕ → ℕ
minus_len cell = front_len minuses cell

-- the first byte is a plus
unfoldable pub has_plus : List ℕ → Bool
has_plus cell = starts_with nat_eq cell (43 ∷ [])

-- the cell begins with a minus
unfoldable pub is_negative : List ℕ → Bool
is_negative cell = not (has_plus cell) && not (minus_len cell == 0)

-- the cell after its sign, if it has one
unfoldable pub unsigned : List ℕ → List ℕ
unsigned cell = if has_plus cell then drop 1 cell else drop (minus_len cell) cell
