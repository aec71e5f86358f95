-- A sum or a difference of small numbers in 128 bits, compared with a third.
use Rattle.std.proofs.Common.{◌≡◌, ◌*◌, arith, sym, ℤ, ◌+ℤ◌, ◌-ℤ◌, ◌<ℤ◌, lit<, to_z, of_z}
use lib.Signed.{lt_z}
use Rattle.std.specs.Int.{w128}
use Rattle.std.specs.Prelude.{FitsSigned, ◌↔◌}
use Rattle.std.specs.Bool.{IsTrue}
use Rattle.std.proofs.lemmas.Int.{ints, to_z-of_z}
use Rattle.mcf_flows.specs.Private.Sums.{sum_limit}
use Rattle.mcf_flows.specs.WellFormed.{IsUpTo}
use Rattle.mcf_flows.proofs.Bounds.{read_back}

less_is : (x y : ℤ) → IsTrue (lt_z x y) ↔ (x <ℤ y)
less_is x y = (λ h. omega (arith, ints), λ h. sym (omega (arith, ints)))

pub less_than_sum : (x s l can must : ℤ) → FitsSigned w128 x → IsUpTo sum_limit s → IsUpTo sum_limit l → x ≡ can → s +ℤ l ≡ must
    → IsTrue (lt_z (to_z w128 (of_z w128 x)) (to_z w128 (of_z w128 (to_z w128 (of_z w128 s) +ℤ to_z w128 (of_z w128 l))))) ↔ (can <ℤ must)
less_than_sum x s l can must fits small small' e k =
    rw (
      to_z-of_z w128 x fits,
      read_back s sum_limit small (lit< tt),
      read_back l sum_limit small' (lit< tt),
      read_back (s +ℤ l) (2 * sum_limit)
          (omega (arith, ints)) (lit< tt),
      e,
      k,
    ) (less_is can must)

pub less_than_difference : (x s l can must : ℤ) → FitsSigned w128 x → IsUpTo sum_limit s → IsUpTo sum_limit l → x ≡ can → l -ℤ s ≡ must
    → IsTrue (lt_z (to_z w128 (of_z w128 x)) (to_z w128 (of_z w128 (to_z w128 (of_z w128 l) -ℤ to_z w128 (of_z w128 s))))) ↔ (can <ℤ must)
less_than_difference x s l can must fits small small' e k =
    rw (
      to_z-of_z w128 x fits,
      read_back l sum_limit small' (lit< tt),
      read_back s sum_limit small (lit< tt),
      read_back (l -ℤ s) (2 * sum_limit)
          (omega (arith, ints)) (lit< tt),
      e,
      k,
    ) (less_is can must)
