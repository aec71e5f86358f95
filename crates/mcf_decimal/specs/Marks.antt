-- The marks before decimals.
-- Source: own
use Rattle.std.specs.Prelude.{ℕ, Bool, ◌==◌}
use Rattle.mcf_decimal.specs.declared.mark.Mark.{Mark}
use Rattle.mcf_decimal.specs.declared.mark.Mark.TheVariants.{Point, Comma}

-- the byte that writes a mark
abbrev pub byte_of : Mark → ℕ
byte_of Point = 46
byte_of Comma = 44

-- the mark that then stands between thousands
abbrev pub other : Mark → Mark
other Point = Comma
other Comma = Point

-- the byte writes this mark
abbrev pub is_byte_of : Mark → ℕ → Bool
is_byte_of mark b = b == byte_of mark
