-- Tests of numbers that are read back from their bits.
use Rattle.std.proofs.Common.{◌≡◌, ℕ, ◌+◌, ◌*◌, ◌<◌, ◌-◌, ◌^◌, Bool, true, false, IsTrue, ◌↔◌, IfSome, Some, None, if◌then◌else◌, refl, lit<, arith, ℤ, pos, ◌+ℤ◌, ◌-ℤ◌, ◌≤ℤ◌, ◌<ℤ◌, to_z, of_z}
use lib.Signed.{le_z, lt_z}
use Rattle.std.specs.Int.{w64, w128}
use Rattle.std.specs.Prelude.{FitsSigned}
use Rattle.std.proofs.lemmas.Int.{ints, to_z-of_z}
use Rattle.mcf_flows.proofs.IntLaws.{at_most, at_most_passes}
use Rattle.mcf_flows.specs.Network.{when}
use Rattle.mcf_flows.specs.WellFormed.{IsUpTo}
use Rattle.mcf_flows.proofs.Bounds.{read_back}
use Rattle.mcf_matrix.specs.declared.matrix.TheConstants.{FORBIDDEN}
use Rattle.mcf_matrix.specs.Private.Narrow.{IsNarrow}
use Rattle.mcf_matrix.specs.Tables.{cost_of}

-- a sum below the greatest number is at most an entry exactly if the entry forbids the pair or is
-- at least the sum
bare_covers : (a b c : ℤ) (allowed : Bool) → lt_z c FORBIDDEN ≡ allowed → (a +ℤ b) <ℤ FORBIDDEN
    → IsTrue (le_z (a +ℤ b) c) ↔ IfSome (if allowed then Some c else None) (λ z. pos 0 ≤ℤ (z -ℤ a -ℤ b))
bare_covers a b c true e small =
    ((λ h. let k = at_most (a +ℤ b) c h in omega (arith, ints)), (λ p. at_most_passes (a +ℤ b) c (omega (arith, ints))))
bare_covers a b c false e small =
    ((λ h. tt), (λ p. at_most_passes (a +ℤ b) c (grind (arith, ints))))

pub narrow_covers : (a b c : ℤ) → FitsSigned w64 a → FitsSigned w64 b → FitsSigned w64 c → IsNarrow a → IsNarrow b
    → IsTrue (le_z (to_z w64 (of_z w64 (to_z w64 (of_z w64 a) +ℤ to_z w64 (of_z w64 b)))) (to_z w64 (of_z w64 c)))
    ↔ IfSome (cost_of c) (λ z. pos 0 ≤ℤ (z -ℤ a -ℤ b))
narrow_covers a b c fa fb fc na nb =
    let small : IsUpTo (2 ^ 63 - 2) (a +ℤ b) = omega (arith, ints) in
    let fits : FitsSigned w64 (a +ℤ b) = omega (arith, ints) in
    rw (to_z-of_z w64 a fa, to_z-of_z w64 b fb, to_z-of_z w64 (a +ℤ b) fits, to_z-of_z w64 c fc) (bare_covers a b c (lt_z c FORBIDDEN) refl (omega (arith, ints)))

-- a number of 64 bits that was widened
up_to_64 : (z : ℤ) → FitsSigned w64 z → IsUpTo (2 ^ 63) z
up_to_64 z f = omega (arith, ints)

pub difference_read : (a b c A B C : ℤ) → FitsSigned w64 a → FitsSigned w64 b → FitsSigned w64 c
    → A ≡ to_z w64 (of_z w64 a) → B ≡ to_z w64 (of_z w64 b) → C ≡ to_z w64 (of_z w64 c)
    → to_z w128 (of_z w128 (to_z w128 (of_z w128 (to_z w128 (of_z w128 A) -ℤ to_z w128 (of_z w128 B))) -ℤ to_z w128 (of_z w128 C))) ≡ a -ℤ b -ℤ c
difference_read a b c A B C fa fb fc ea eb ec =
    let ua = up_to_64 a fa in
    let ub = up_to_64 b fb in
    let uc = up_to_64 c fc in
    rw (
      ea,
      eb,
      ec,
      to_z-of_z w64 a fa,
      to_z-of_z w64 b fb,
      to_z-of_z w64 c fc,
      read_back a (2 ^ 63) ua (lit< tt),
      read_back b (2 ^ 63) ub (lit< tt),
      read_back c (2 ^ 63) uc (lit< tt),
      read_back (a -ℤ b) (2 ^ 64) (omega (arith, ints)) (lit< tt),
      read_back (a -ℤ b -ℤ c) (2 ^ 65) (omega (arith, ints)) (lit< tt),
    ) refl

-- what is left of a number when one that isn't below 0 or above it is taken off
pub fits_difference : (l a : ℤ) → FitsSigned w64 l → pos 0 ≤ℤ a → a ≤ℤ l → FitsSigned w64 (l -ℤ a)
fits_difference l a f low high = omega (arith, ints)

-- a sum of numbers of 64 bits, one more of which counts or doesn't
pub sum_up_to : (b : Bool) (total z : ℤ) (n : ℕ) → FitsSigned w64 z → IsUpTo (2 ^ 63 * n) total → IsUpTo (2 ^ 63 * (n + 1)) (total +ℤ when b z)
sum_up_to true total z n f h = let u = up_to_64 z f in omega (arith, ints)
sum_up_to false total z n f h = omega (arith, ints)

pub sum_stays_small : (total : ℤ) (n : ℕ) → n < 2 ^ 63 → IsUpTo (2 ^ 63 * n) total → IsUpTo (2 ^ 126) total
sum_stays_small total n b h = omega (arith, ints)
