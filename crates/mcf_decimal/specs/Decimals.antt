-- Exact decimals.
-- Source: textbook
use Rattle.std.specs.Prelude.{◌≡◌, ◌-◌, ◌^◌, ℕ, ℤ, pos, ◌*ℤ◌}
use Rattle.mcf_decimal.specs.declared.decimal.Decimal.{Decimal}

-- two decimals stand for the same number: each mantissa, times 10 to the places of the other
abbrev pub SameValue : Decimal → Decimal → Type 0
SameValue a b = a.mantissa *ℤ pos (10 ^ b.places) ≡ b.mantissa *ℤ pos (10 ^ a.places)

-- the decimal as a number of units of 10 ^ -scale, where it has no more places than that
abbrev pub at_scale : ℕ → Decimal → ℤ
at_scale scale d = d.mantissa *ℤ pos (10 ^ (scale - d.places))
