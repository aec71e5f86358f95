-- Numbers that are written with an exponent.
-- Source: own
use Rattle.std.specs.Prelude.{ℕ, ◌==◌, Bool, ◌&&◌, ◌||◌, List}
use Rattle.std.specs.Char.{is_ascii_digit}
use Rattle.std.specs.List.{list_all, before_first, after_first}
use Rattle.mcf_text.specs.Whole.{is_numeral, is_whole}
use Rattle.mcf_decimal.specs.Marks.{byte_of}
use Rattle.mcf_decimal.specs.Signs.{unsigned}
use Rattle.mcf_decimal.specs.declared.mark.Mark.TheVariants.{Point, Comma}

-- an `e` or an `E`
abbrev pub is_e : ℕ → Bool
is_e b = b == 101 || b == 69

-- a point or a comma
abbrev pub is_mark : ℕ → Bool
is_mark b = b == byte_of Point || b == byte_of Comma

-- digits, and perhaps a mark and digits or none after it
unfoldable pub is_factor : List ℕ → Bool
is_factor text = is_numeral (before_first is_mark text) && list_all is_ascii_digit (after_first is_mark text)

-- a factor, then an `e`, then a whole number, as in 1.5e3
unfoldable pub is_exponent : List ℕ → Bool
is_exponent cell = is_factor (before_first is_e (unsigned cell)) && is_whole (after_first is_e (unsigned cell))
