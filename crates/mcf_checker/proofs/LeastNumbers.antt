-- The least number from 1 on that passes a test.
use Rattle.std.proofs.Common.{◌≡◌, ℕ, zero, suc, ◌+◌, ◌-◌, ◌≤◌, ◌<◌, Bool, true, false, cond, refl, ap, sym, ◌∙◌, arith, inl, inr, Option, Some, None}
use Rattle.std.specs.List.{find, range_with_len}
use Rattle.std.proofs.lemmas.Bool.{cases_eq}
use Rattle.std.proofs.lemmas.Option.{none-some}
use Rattle.mcf_checker.specs.Judging.{least_up_to}

none_of_cond : (b : Bool) (x : ℕ) (rest : Option ℕ) → cond b (Some x) rest ≡ None → (b ≡ false) × (rest ≡ None)
none_of_cond true x rest e = absurd (none-some x (sym e))
none_of_cond false x rest e = (refl, e)

module _ (p : ℕ → Bool) where
  find_at_least : (from n k : ℕ) → from ≤ k → k < from + n → ((j : ℕ) → from ≤ j → j < k → p j ≡ false) → p k ≡ true → find p (range_with_len from n) ≡ Some k
  find_at_least from zero k low high before here = absurd (omega arith)
  find_at_least from (suc n) k low high before here =
      elim (cases_eq from k) [
        | inl same ↦ rw (ap p same ∙ here) (ap Some same)
        | inr other ↦ rw (before from (omega arith) (omega arith)) (find_at_least (from + 1) n k (omega arith) (omega arith)
            (λ j l h. before j (omega arith) h) here)
      ]

  find_nowhere : (from n : ℕ) → ((j : ℕ) → from ≤ j → j < from + n → p j ≡ false) → find p (range_with_len from n) ≡ None
  find_nowhere from zero each = refl
  find_nowhere from (suc n) each =
      rw (each from (omega arith) (omega arith)) (find_nowhere (from + 1) n (λ j l h. each j (omega arith) (omega arith)))

  each_fails : (from n k : ℕ) → find p (range_with_len from n) ≡ None → from ≤ k → k < from + n → p k ≡ false
  each_fails from zero k e low high = absurd (omega arith)
  each_fails from (suc n) k e low high =
      let parts = none_of_cond (p from) from (find p (range_with_len (from + 1) n)) e in
      elim (cases_eq from k) [
        | inl same ↦ sym (ap p same) ∙ parts.0
        | inr other ↦ each_fails (from + 1) n k parts.1 (omega arith) (omega arith)
      ]

  -- the places before a number, as the numbers from 1 on
  before_number : (k : ℕ) → ((i : ℕ) → i < k → p (i + 1) ≡ false) → (j : ℕ) → 1 ≤ j → j < k + 1 → p j ≡ false
  before_number k before j low high =
      let e : j - 1 + 1 ≡ j = omega arith in sym (ap p e) ∙ before (j - 1) (omega arith)

  pub least_some : (n i : ℕ) → i < n → ((j : ℕ) → j < i → p (j + 1) ≡ false) → p (i + 1) ≡ true → least_up_to n p ≡ Some (i + 1)
  least_some n i h before here =
      find_at_least 1 n (i + 1) (omega arith) (omega arith) (before_number i before) here

  pub least_none : (n : ℕ) → ((j : ℕ) → j < n → p (j + 1) ≡ false) → least_up_to n p ≡ None
  least_none n each =
      find_nowhere 1 n (λ j low high. before_number n each j low (omega arith))

  pub least_none-each : (n : ℕ) → least_up_to n p ≡ None → (i : ℕ) → i < n → p (i + 1) ≡ false
  least_none-each n e i h = each_fails 1 n (i + 1) e (omega arith) (omega arith)

-- tests that agree on the numbers
find-same : (p q : ℕ → Bool) (from n : ℕ) → ((k : ℕ) → from ≤ k → k < from + n → p k ≡ q k) → find p (range_with_len from n) ≡ find q (range_with_len from n)
find-same p q from zero same = refl
find-same p q from (suc n) same =
    rw (same from (omega arith) (omega arith), find-same p q (from + 1) n (λ k low high. same k (omega arith) (omega arith))) refl

pub least-same : (p q : ℕ → Bool) (n : ℕ) → ((k : ℕ) → 1 ≤ k → k ≤ n → p k ≡ q k) → least_up_to n p ≡ least_up_to n q
least-same p q n same = find-same p q 1 n (λ k low high. same k low (omega arith))
