-- Heads that are nearly those of a table.
-- Source: own
use Rattle.std.specs.Prelude.{◌≡◌, ◌≢◌, ℕ, ◌+◌, ◌-◌, ◌*◌, ◌==◌, nat_lt, ◌⊎◌, Bool, false, ◌&&◌, ◌||◌, if◌then◌else◌, List, [], ◌∷◌, ◌++◌, length, map, filter, take, drop, min, codes}
use Rattle.std.specs.Char.{is_ascii_alphanumeric, is_ascii_digit, to_ascii_lowercase}
use Rattle.std.specs.List.{list_any, suffix_len}
use Rattle.std.specs.Str.{bytes_eq}

-- the long word is the short one with one letter more
pub record IsInserted (short long : List ℕ) : Type 0 where
  pub front : List ℕ
  pub letter : ℕ
  pub back : List ℕ
  pub short_is : short ≡ front ++ back
  pub long_is : long ≡ front ++ letter ∷ back

-- the words differ in one letter
pub record IsChanged (one other : List ℕ) : Type 0 where
  pub front : List ℕ
  pub letter : ℕ
  pub instead : ℕ
  pub back : List ℕ
  pub one_is : one ≡ front ++ letter ∷ back
  pub other_is : other ≡ front ++ instead ∷ back
  pub differ : letter ≢ instead

-- the words differ in the order of two neighbours
pub record IsSwapped (one other : List ℕ) : Type 0 where
  pub front : List ℕ
  pub first : ℕ
  pub second : ℕ
  pub back : List ℕ
  pub one_is : one ≡ front ++ first ∷ second ∷ back
  pub other_is : other ≡ front ++ second ∷ first ∷ back
  pub differ : first ≢ second

-- one word becomes the other if one letter is added, dropped or changed, or two neighbours swapped
abbrev pub IsOneEdit : List ℕ → List ℕ → Type 0
IsOneEdit one other = IsInserted one other ⊎ IsInserted other one ⊎ IsChanged one other ⊎ IsSwapped one other

-- ---- the same by computing

-- the first two letters of one word are those of the other, swapped, and the rest is the same
abbrev pub are_swapped : List ℕ → List ℕ → Bool
are_swapped [] other = false
are_swapped (a ∷ []) other = false
are_swapped (a ∷ b ∷ one) [] = false
are_swapped (a ∷ b ∷ one) (c ∷ []) = false
are_swapped (a ∷ b ∷ one) (c ∷ d ∷ other) = a == d && (b == c && bytes_eq one other)

-- one edit at their first letters makes one word the other
abbrev pub differ_once : List ℕ → List ℕ → Bool
differ_once [] other = length other == 1
differ_once (x ∷ one) [] = length (x ∷ one) == 1
differ_once (x ∷ one) (y ∷ other) =
    bytes_eq one other || (bytes_eq (x ∷ one) other || (bytes_eq one (y ∷ other) || are_swapped (x ∷ one) (y ∷ other)))

-- One edit past the letters with which both begin makes one word the other. `is_one_edit` in
-- `src/near.rt` says that this is `IsOneEdit`.
abbrev pub is_one_edit : List ℕ → List ℕ → Bool
is_one_edit [] other = differ_once [] other
is_one_edit (x ∷ one) [] = differ_once (x ∷ one) []
is_one_edit (x ∷ one) (y ∷ other) = if x == y then is_one_edit one other else differ_once (x ∷ one) (y ∷ other)

-- the word is nearly this head, which is longer than three letters
abbrev pub is_near : List ℕ → List ℕ → Bool
is_near word head = nat_lt 3 (length head) && is_one_edit word head

-- ---- the word and the number of a head

-- the letters and digits of a head, those of ASCII alone, in lower case
abbrev pub head_letters : List ℕ → List ℕ
head_letters head = map to_ascii_lowercase (filter is_ascii_alphanumeric head)

-- how many digits end the letters of a head, two at most
abbrev pub digit_count : List ℕ → ℕ
digit_count letters = min 2 (suffix_len is_ascii_digit letters)

-- the letters of a head without these digits
abbrev pub head_word : List ℕ → List ℕ
head_word letters = take (length letters - digit_count letters) letters

-- these digits
abbrev pub head_digits : List ℕ → List ℕ
head_digits letters = drop (length letters - digit_count letters) letters

-- the number that these digits spell; 0 if there are none
abbrev pub head_number : List ℕ → ℕ
head_number [] = 0
head_number (d ∷ []) = d - 48
head_number (d ∷ e ∷ more) = 10 * (d - 48) + (e - 48)

-- the word is one of these
abbrev pub is_among : List (List ℕ) → List ℕ → Bool
is_among words word = list_any (bytes_eq word) words

-- the word that is meant: `min` and `minimum` mean `least`, `max` and `maximum` mean `most`
unfoldable pub common_word : List ℕ → List ℕ
common_word word =
    if is_among (codes "min" ∷ codes "minimum" ∷ []) word then codes "least"
    else if is_among (codes "max" ∷ codes "maximum" ∷ []) word then codes "most"
    else word

-- the word that the letters of a head mean
abbrev pub meant_word : List ℕ → List ℕ
meant_word head = common_word (head_word (head_letters head))

-- the digits at the end of the letters of a head
abbrev pub meant_digits : List ℕ → List ℕ
meant_digits head = head_digits (head_letters head)
