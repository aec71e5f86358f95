-- Heads that say a rank: 1, 2nd, third, wish 4, 5. Wunsch, Erstwunsch and so on.
-- Source: own
use Rattle.std.specs.Prelude.{ℕ, ◌-◌, nat_le, max, ◌&&◌, if◌then◌else◌, List, [], ◌∷◌, ◌++◌, length, take, drop, codes}
use Rattle.std.specs.Str.{str_eq_ignore_ascii_case}
use Rattle.mcf_text.specs.Leading.{digit_count}
use Rattle.mcf_text.specs.Whole.{digits_sum}
use Rattle.mcf_forms.specs.Cells.{is_word}

-- the text without this word at its front, where an ASCII letter is the same in either case
unfoldable pub without_front : List ℕ → List ℕ → List ℕ
without_front word text = if str_eq_ignore_ascii_case (take (length word) text) word then drop (length word) text else text

-- the text without this word at its end
unfoldable pub without_back : List ℕ → List ℕ → List ℕ
without_back word text =
    if str_eq_ignore_ascii_case (drop (length text - length word) text) word then take (length text - length word) text else text

-- the text without each of these words at both ends, one after another
abbrev pub without_words : List (List ℕ) → List ℕ → List ℕ
without_words [] text = text
without_words (word ∷ words) text = without_words words (without_back word (without_front word text))

-- what may stand beside a rank
abbrev pub wish_words : List (List ℕ)
wish_words = codes "wish" ∷ codes "choice" ∷ codes "wunsch" ∷ codes "wahl" ∷ codes " " ∷ []

-- what may end a number
abbrev pub number_ends : List (List ℕ)
number_ends = [] ∷ codes "." ∷ codes "st" ∷ codes "nd" ∷ codes "rd" ∷ codes "th" ∷ []

-- the number that one or two digits say, perhaps with such an end; 0 if the text is none
unfoldable pub number_rank : List ℕ → ℕ
number_rank text =
    if nat_le 1 (digit_count text) && (nat_le (digit_count text) 2 && is_word number_ends (drop (digit_count text) text))
    then digits_sum (take (digit_count text) text)
    else 0

-- fünft, in UTF-8
abbrev pub fifth : List ℕ
fifth = 102 ∷ 195 ∷ 188 ∷ codes "nft"

-- the number that a word says, from 1 to 5; 0 if it is none of these
unfoldable pub word_rank : List ℕ → ℕ
word_rank text =
    if is_word (codes "first" ∷ codes "erst" ∷ codes "erste" ∷ codes "erster" ∷ []) text then 1
    else if is_word (codes "second" ∷ codes "zweit" ∷ codes "zweite" ∷ codes "zweiter" ∷ []) text then 2
    else if is_word (codes "third" ∷ codes "dritt" ∷ codes "dritte" ∷ codes "dritter" ∷ []) text then 3
    else if is_word (codes "fourth" ∷ codes "viert" ∷ codes "vierte" ∷ codes "vierter" ∷ []) text then 4
    else if is_word (codes "fifth" ∷ fifth ∷ (fifth ++ codes "e") ∷ (fifth ++ codes "er") ∷ []) text then 5
    else 0

-- the rank that a text says as a number or as a word; 0 if it says none
abbrev pub said_rank : List ℕ → ℕ
said_rank text = max (number_rank text) (word_rank text)

-- the rank that a head says, perhaps beside a word for a wish; 0 if it says none
unfoldable pub rank_of : List ℕ → ℕ
rank_of head = said_rank (without_words wish_words head)
