-- The digits at the front of some bytes.
-- Source: own
use Rattle.std.specs.Prelude.{ℕ, List, take}
use Rattle.std.specs.Char.{is_ascii_digit}
use Rattle.std.specs.List.{prefix_len}

-- how many digits are read at most: what so many write fits in 60 bits
abbrev pub leading_limit : ℕ
leading_limit = 18

-- how many digits stand at the front, of the first eighteen bytes
abbrev pub digit_count : List ℕ → ℕ
digit_count bytes = prefix_len is_ascii_digit (take leading_limit bytes)
