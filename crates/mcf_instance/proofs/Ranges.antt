-- What tests of ranges say: of a number, of the natural number that it stands for, and of the
-- number that the reader keeps for it.
use Rattle.std.proofs.Common.{◌≡◌, ℕ, ◌+◌, ◌≤◌, Bool, true, false, cond, refl, ap, sym, ◌∙◌, arith}
use Rattle.std.specs.Prelude.{ℤ, pos, negsuc, neg_ℤ, int_le, ◌≤ℤ◌}
use Rattle.std.proofs.lemmas.Bool.{and_from, and_parts, and_right, both_ways, false_from_ne_true}
use Rattle.std.proofs.lemmas.Int.{ints}
use Rattle.mcf_text.specs.Row.{natural}
use Rattle.mcf_text.specs.Whole.{is_within}
use Rattle.mcf_instance.specs.Fault.{is_up_to}
use Rattle.mcf_instance.specs.Private.LineReader.{clamped, kept_size}
use Rattle.mcf_flows.specs.WellFormed.{IsUpTo}
use Rattle.mcf_flows.proofs.IntLaws.{at_most, at_most_passes}

-- ---- a number

pub up_to_is : (b : ℕ) (z : ℤ) → is_up_to b z ≡ true → IsUpTo b z
up_to_is b z e =
    let parts = and_parts (int_le (neg_ℤ (pos b)) z) (int_le z (pos b)) e in
    (at_most (neg_ℤ (pos b)) z parts.0, at_most z (pos b) parts.1)

-- ---- as a natural number

pub natural_low : (n : ℕ) (z : ℤ) → is_within (pos 1) (pos n) z ≡ true → 1 ≤ natural z
natural_low n (pos m) e = grind arith
natural_low n (negsuc m) e = grind arith

pub natural_high : (n : ℕ) (z : ℤ) → is_within (pos 1) (pos n) z ≡ true → natural z ≤ n
natural_high n (pos m) e = grind arith
natural_high n (negsuc m) e = grind arith

pub natural_most : (n : ℕ) (z : ℤ) → is_within (pos 0) (pos n) z ≡ true → natural z ≤ n
natural_most n (pos m) e = grind arith
natural_most n (negsuc m) e = grind arith

-- ---- the number that is kept

-- a range among the numbers that are kept as they are
module _ (lo hi : ℤ) (from : neg_ℤ (pos kept_size) ≤ℤ lo) (to : hi ≤ℤ pos kept_size) where
  is_kept_within : (z : ℤ) → is_within lo hi z ≡ true → is_up_to kept_size z ≡ true
  is_kept_within z e =
      let parts = and_parts (int_le lo z) (int_le z hi) e in
      let low : neg_ℤ (pos kept_size) ≤ℤ z = omega (arith, ints, from, at_most lo z parts.0) in
      let high : z ≤ℤ pos kept_size = omega (arith, ints, to, at_most z hi parts.1) in
      and_from _ _ (at_most_passes _ _ low) (at_most_passes _ _ high)

  pub clamped_same : (z : ℤ) → is_within lo hi z ≡ true → clamped z ≡ z
  clamped_same z e = ap (λ b. cond b z (pos (kept_size + 1))) (is_kept_within z e)

  pub is_within-clamped : (z : ℤ) → is_within lo hi (clamped z) ≡ is_within lo hi z
  is_within-clamped z = go (is_up_to kept_size z) refl
    where
      beyond : int_le (pos (kept_size + 1)) hi ≡ false
      beyond = false_from_ne_true _ (λ t. omega (arith, ints, to, at_most (pos (kept_size + 1)) hi t))

      go : (b : Bool) → is_up_to kept_size z ≡ b → is_within lo hi (clamped z) ≡ is_within lo hi z
      go true e = ap (λ b. is_within lo hi (cond b z (pos (kept_size + 1)))) e
      go false e =
          ap (λ b. is_within lo hi (cond b z (pos (kept_size + 1)))) e
          ∙ and_right (int_le lo (pos (kept_size + 1))) _ beyond
          ∙ sym (false_from_ne_true (is_within lo hi z) (λ t. both_ways _ e (is_kept_within z t)))

-- the ranges of counts from `least` on, and of numbers up to a bound
pub is_within_count-clamped : (least n : ℕ) (z : ℤ) → n ≤ kept_size → is_within (pos least) (pos n) (clamped z) ≡ is_within (pos least) (pos n) z
is_within_count-clamped least n z h = is_within-clamped (pos least) (pos n) (omega (arith, ints)) (omega (arith, ints)) z

pub clamped_count : (least n : ℕ) (z : ℤ) → n ≤ kept_size → is_within (pos least) (pos n) z ≡ true → clamped z ≡ z
clamped_count least n z h e = clamped_same (pos least) (pos n) (omega (arith, ints)) (omega (arith, ints)) z e

pub is_up_to-clamped : (b : ℕ) (z : ℤ) → b ≤ kept_size → is_up_to b (clamped z) ≡ is_up_to b z
is_up_to-clamped b z h = is_within-clamped (neg_ℤ (pos b)) (pos b) (omega (arith, ints)) (omega (arith, ints)) z

pub clamped_up_to : (b : ℕ) (z : ℤ) → b ≤ kept_size → is_up_to b z ≡ true → clamped z ≡ z
clamped_up_to b z h e = clamped_same (neg_ℤ (pos b)) (pos b) (omega (arith, ints)) (omega (arith, ints)) z e
