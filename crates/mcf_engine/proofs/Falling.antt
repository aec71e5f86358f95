-- A number that falls and stays above 0, as a measure.
use Rattle.std.proofs.Common.{ℤ, pos, negsuc, nat_abs, ◌<◌, ◌≤ℤ◌, ◌<ℤ◌, arith}
use Rattle.std.proofs.lemmas.Int.{ints}

pub nat_abs_falls : (a b : ℤ) → pos 0 ≤ℤ a → a <ℤ b → nat_abs a < nat_abs b
nat_abs_falls (pos a) (pos b) l h = omega (arith, ints)
nat_abs_falls (pos a) (negsuc b) l h = absurd (omega (arith, ints))
nat_abs_falls (negsuc a) b l h = absurd (omega (arith, ints))
