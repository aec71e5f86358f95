-- Numbers in cells that add up.
-- Source: own
use Rattle.std.specs.Prelude.{ℕ, nat_le, max, Bool, true, false, ◌&&◌, if◌then◌else◌, List, [], ◌∷◌, map, Some, Result, Ok, Err, ℤ, pos, neg_ℤ, ◌+ℤ◌, ◌^◌, fold, int_le, int_lt}
use Rattle.std.specs.List.{list_all}
use Rattle.std.specs.Ordering.{int_eq}
use Rattle.mcf_decimal.specs.Decimals.{at_scale}
use Rattle.mcf_decimal.specs.Numbers.{read_number}
use Rattle.mcf_decimal.specs.declared.decimal.Decimal.{Decimal}
use Rattle.mcf_decimal.specs.declared.fault.NumberFault.{NumberFault}
use Rattle.mcf_decimal.specs.declared.mark.Mark.{Mark}
use Rattle.mcf_table.specs.Texts.{is_filled}

-- the decimal 0
abbrev pub zero_decimal : Decimal
zero_decimal = record { mantissa = pos 0; places = 0 }

-- what the cell says under this mark: 0 if it is empty
unfoldable pub read_cell : Mark → List ℕ → Result Decimal NumberFault
read_cell mark cell = if is_filled cell then read_number (Some mark) cell else Ok zero_decimal

-- a number was read
abbrev pub was_read : Result Decimal NumberFault → Bool
was_read (Ok number) = true
was_read (Err fault) = false

-- the number that was read; 0 if none was
abbrev pub number_read : Result Decimal NumberFault → Decimal
number_read (Ok number) = number
number_read (Err fault) = zero_decimal

-- the cell is empty or a number under this mark
unfoldable pub is_readable : Mark → List ℕ → Bool
is_readable mark cell = was_read (read_cell mark cell)

-- this number; 0 if the cell is empty
unfoldable pub number_in : Mark → List ℕ → Decimal
number_in mark cell = number_read (read_cell mark cell)

-- the most decimals that any of these numbers has
abbrev pub scale_of : List Decimal → ℕ
scale_of [] = 0
scale_of (number ∷ numbers) = max number.places (scale_of numbers)

-- the whole number fits 64 bits, one of which is its sign
abbrev pub fits_64 : ℤ → Bool
fits_64 z = int_le (neg_ℤ (pos (2 ^ 63))) z && int_lt z (pos (2 ^ 63))

-- the number is a whole one of units of 10 ^ -scale, which fits 64 bits
unfoldable pub fits : ℕ → Decimal → Bool
fits scale number = nat_le number.places scale && fits_64 (at_scale scale number)

-- the sum of the numbers, in these units
abbrev pub sum_at : ℕ → List Decimal → ℤ
sum_at scale numbers = fold ◌+ℤ◌ (pos 0) (map (at_scale scale) numbers)

-- The total is the exact sum of the numbers: in units that make whole numbers of all, each of which
-- fits 64 bits.
unfoldable pub add_up : List Decimal → Decimal → Bool
add_up numbers total =
    let scale = max total.places (scale_of numbers) in
    list_all (fits scale) numbers && (fits scale total && int_eq (sum_at scale numbers) (at_scale scale total))

-- the cells are numbers under this mark, or empty, and the total is one that is their sum
unfoldable pub is_sum : List (List ℕ) → List ℕ → Mark → Bool
is_sum cells total mark =
    list_all (is_readable mark) cells && (is_readable mark total && add_up (map (number_in mark) cells) (number_in mark total))
