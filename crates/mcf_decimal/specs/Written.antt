-- The text of a decimal.
-- Source: own
use Rattle.std.specs.Prelude.{ℕ, ◌-◌, ◌==◌, nat_le, Bool, if◌then◌else◌, List, [], ◌∷◌, ◌++◌, length, take, drop, replicate, ℤ, pos, int_lt, unsigned_abs, Some}
use Rattle.std.specs.Fmt.{decimal}
use Rattle.std.specs.List.{suffix_len}
use Rattle.mcf_decimal.specs.Decimals.{SameValue}
use Rattle.mcf_decimal.specs.Numbers.{IsNumber, is_zero}
use Rattle.mcf_decimal.specs.declared.decimal.Decimal.{Decimal}
use Rattle.mcf_decimal.specs.declared.mark.Mark.TheVariants.{Point}

-- the digits before the last `places`, or a 0 if there are none
unfoldable pub front_digits : List ℕ → ℕ → List ℕ
front_digits digits places = if nat_le (length digits) places then 48 ∷ [] else take (length digits - places) digits

-- the last `places` digits, or all
unfoldable pub last_digits : List ℕ → ℕ → List ℕ
last_digits digits places = drop (length digits - places) digits

-- without the zeros at the end
unfoldable pub trimmed : List ℕ → List ℕ
trimmed digits = take (length digits - suffix_len is_zero digits) digits

-- a point, zeros and digits; nothing, if there are no digits
unfoldable pub fraction_text : ℕ → List ℕ → List ℕ
fraction_text zeros digits = if length digits == 0 then [] else 46 ∷ (replicate zeros 48 ++ digits)

-- a minus or nothing
abbrev pub minus_text : Bool → List ℕ
minus_text is_negative = if is_negative then 45 ∷ [] else []

-- a sign, and digits of which the last `places` are decimals
unfoldable pub shifted : Bool → List ℕ → ℕ → List ℕ
shifted is_negative digits places =
    minus_text is_negative
    ++ (front_digits digits places ++ fraction_text (places - length digits) (trimmed (last_digits digits places)))

-- the text of the decimal of these digits: a minus if it is below 0, then its digits with a point
-- before the decimals, which don't end with a 0
unfoldable pub decimal_text : ℤ → ℕ → List ℕ
decimal_text mantissa places = shifted (int_lt mantissa (pos 0)) (decimal (unsigned_abs mantissa)) places

-- the text says a number of the value of this decimal, where a point stands before decimals
pub record SaysDecimal (text : List ℕ) (decimal : Decimal) : Type 0 where
  pub number : Decimal
  pub says : IsNumber (Some Point) text number
  pub same : SameValue number decimal

-- the decimal of a mantissa and of places
abbrev pub decimal_of : ℤ → ℕ → Decimal
decimal_of mantissa places = record { mantissa = mantissa; places = places }
