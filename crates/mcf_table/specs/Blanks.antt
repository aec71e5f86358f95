-- Blanks at the ends of a cell, in UTF-8.
-- Source: own
use Rattle.std.specs.Prelude.{ℕ, zero, suc, ◌-◌, ◌==◌, nat_le, Bool, ◌&&◌, ◌||◌, if◌then◌else◌, List, length, take, drop, slice_index}

-- tab, line feed, vertical tab, form feed, carriage return, or space
abbrev pub is_blank_byte : ℕ → Bool
is_blank_byte b = b == 32 || (nat_le 9 b && nat_le b 13)

-- the space that doesn't break (U+00A0)
abbrev pub is_blank_pair : ℕ → ℕ → Bool
is_blank_pair a b = a == 194 && b == 160

-- After the bytes 226 and 128: the spaces of some width (U+2000 to U+200A), the separators of lines
-- and of paragraphs (U+2028, U+2029), and the narrow space that doesn't break (U+202F).
abbrev pub is_space_end : ℕ → Bool
is_space_end c = (nat_le 128 c && nat_le c 138) || c == 168 || c == 169 || c == 175

-- after the byte 226: one of these, or the mathematical space (U+205F)
abbrev pub is_wide_space : ℕ → ℕ → Bool
is_wide_space b c = (b == 128 && is_space_end c) || (b == 129 && c == 159)

-- one of these; the Ogham space (U+1680); the ideographic space (U+3000); or the byte order mark
-- (U+FEFF), which a file has inside that was joined from several
abbrev pub is_blank_triple : ℕ → ℕ → ℕ → Bool
is_blank_triple a b c =
    (a == 226 && is_wide_space b c) || (a == 225 && b == 154 && c == 128) || (a == 227 && b == 128 && c == 128)
    || (a == 239 && b == 187 && c == 191)

-- how long the blank is with which the text begins; 0 if it begins with none
unfoldable pub front_blank : List ℕ → ℕ
front_blank text =
    if nat_le 1 (length text) && is_blank_byte (slice_index text 0) then 1
    else if nat_le 2 (length text) && is_blank_pair (slice_index text 0) (slice_index text 1) then 2
    else if nat_le 3 (length text) && is_blank_triple (slice_index text 0) (slice_index text 1) (slice_index text 2) then 3
    else 0

-- how long the blank is with which the text ends; 0 if it ends with none
unfoldable pub back_blank : List ℕ → ℕ
back_blank text =
    let len = length text in
    if nat_le 1 len && is_blank_byte (slice_index text (len - 1)) then 1
    else if nat_le 2 len && is_blank_pair (slice_index text (len - 2)) (slice_index text (len - 1)) then 2
    else if nat_le 3 len && is_blank_triple (slice_index text (len - 3)) (slice_index text (len - 2)) (slice_index text (len - 1)) then 3
    else 0

-- the text without the blank with which it begins, if it begins with one
abbrev pub without_front : List ℕ → List ℕ
without_front text = drop (front_blank text) text

-- the text without the blank with which it ends, if it ends with one
abbrev pub without_back : List ℕ → List ℕ
without_back text = take (length text - back_blank text) text

-- what is left of the text after so many changes
abbrev pub repeated : ℕ → (List ℕ → List ℕ) → List ℕ → List ℕ
repeated zero change text = text
repeated (suc n) change text = repeated n change (change text)

-- the text without the blanks with which it begins
unfoldable pub front_trimmed : List ℕ → List ℕ
front_trimmed text = repeated (length text) without_front text

-- the text without the blanks with which it ends
unfoldable pub back_trimmed : List ℕ → List ℕ
back_trimmed text = repeated (length text) without_back text

-- the text without the blanks at both its ends
unfoldable pub trimmed : List ℕ → List ℕ
trimmed text = back_trimmed (front_trimmed text)
