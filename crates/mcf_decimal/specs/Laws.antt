-- Laws of numbers in cells.
-- Source: own
use Rattle.std.specs.Prelude.{◌≡◌, ℕ, IsTrue, List, Option}
use Rattle.mcf_text.specs.Whole.{digits_sum, signed_value}
use Rattle.mcf_decimal.specs.Groups.{is_digits}
use Rattle.mcf_decimal.specs.Numbers.{IsNumber}
use Rattle.mcf_decimal.specs.Signs.{is_negative, unsigned}
use Rattle.mcf_decimal.specs.declared.decimal.Decimal.{Decimal}
use Rattle.mcf_decimal.specs.declared.mark.Mark.{Mark}

-- a cell says at most one number
abbrev pub CellsSayOneNumber : Type 0
CellsSayOneNumber =
    (mark : Option Mark) (cell : List ℕ) (a b : Decimal) → IsNumber mark cell a → IsNumber mark cell b → a ≡ b

-- the whole number that a sign and digits say
abbrev pub whole_number : List ℕ → Decimal
whole_number cell = record { mantissa = signed_value (is_negative cell) (digits_sum (unsigned cell)); places = 0 }

-- a sign or none and digits say their whole number, whichever mark is settled, or none
abbrev pub WholeNumbersReadAlike : Type 0
WholeNumbersReadAlike =
    (mark : Option Mark) (cell : List ℕ) → IsTrue (is_digits (unsigned cell)) → IsNumber mark cell (whole_number cell)
