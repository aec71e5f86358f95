-- What the bits of a double stand for: a whole number of units of 2^-1074, which is the least
-- double above 0.
-- Source: IEEE 754-2019 3.4
use Rattle.std.specs.Prelude.{◌≡◌, ℕ, ◌+◌, ◌-◌, ◌*◌, ◌/◌, ◌%◌, ◌^◌, ◌<◌, ◌==◌, ◌⊎◌, nat_lt, Option, Some, None, ℤ, pos, neg_ℤ, if◌then◌else◌}
use Rattle.mcf_matrix_doubles.specs.declared.double.TheConstants.{INFINITY}

-- the biased exponent: eleven bits
abbrev pub exponent_of : ℕ → ℕ
exponent_of bits = bits / 2 ^ 52 % 2 ^ 11

-- the fraction: the last fifty-two bits
abbrev pub fraction_of : ℕ → ℕ
fraction_of bits = bits % 2 ^ 52

-- the size of a finite double; those of exponent 0 are subnormal
abbrev pub size_of : ℕ → ℕ
size_of bits = if exponent_of bits == 0 then fraction_of bits else (2 ^ 52 + fraction_of bits) * 2 ^ (exponent_of bits - 1)

-- the value of a finite double: its first bit is the sign
abbrev pub value_of : ℕ → ℤ
value_of bits = if nat_lt bits (2 ^ 63) then pos (size_of bits) else neg_ℤ (pos (size_of bits))

-- a finite double, or +infinity
abbrev pub IsEntry : ℕ → Type 0
IsEntry bits = (exponent_of bits < 2047) ⊎ (bits ≡ INFINITY)

-- the cost that an entry stands for; +infinity stands for none
-- Source: own
abbrev pub double_cost : ℕ → Option ℤ
double_cost bits = if bits == INFINITY then None else Some (value_of bits)
