-- Laws of sums over the places below a number.
use Rattle.std.proofs.Common.{◌+◌, ◌≡◌, ◌≢◌, ℕ, zero, suc, ◌<◌, ◌≤◌, eqb, ltb, Bool, true, false, List, length, get_or, take, count_by, ◌⊎◌, inl, inr, refl, ap, sym, ◌∙◌, arith, ℤ, pos, ◌+ℤ◌, ◌≤ℤ◌, add-one}
use Rattle.std.proofs.lemmas.Bool.{eq-eqb, ne_eqb, cases_Bool, cases_eq, cases_lt, lt-ltb, le-ltb}
use Rattle.std.proofs.lemmas.Int.{ints}
use Rattle.std.proofs.lemmas.List.{take_all}
use Rattle.std.proofs.lemmas.List.Sums.{count_by_more_yes, count_by_more_no}
use Rattle.mcf_flows.specs.Network.{when}
use Rattle.mcf_matrix.specs.PlaceSums.{sum_below}

pub sum_below-add : (s t : ℕ → ℤ) (n : ℕ) → sum_below (λ i. s i +ℤ t i) n ≡ sum_below s n +ℤ sum_below t n
sum_below-add s t zero = refl
sum_below-add s t (suc n) = omega (arith, ints, sum_below-add s t n)

-- terms that agree below n
pub sum_below-same : (s t : ℕ → ℤ) (n : ℕ) → ((i : ℕ) → i < n → s i ≡ t i) → sum_below s n ≡ sum_below t n
sum_below-same s t zero e = refl
sum_below-same s t (suc n) e = omega (arith, ints, e n (omega arith), sum_below-same s t n (λ i h. e i (omega arith)))

-- terms in order below n
pub sum_below-le : (s t : ℕ → ℤ) (n : ℕ) → ((i : ℕ) → i < n → s i ≤ℤ t i) → sum_below s n ≤ℤ sum_below t n
sum_below-le s t zero e = omega (arith, ints)
sum_below-le s t (suc n) e = omega (arith, ints, e n (omega arith), sum_below-le s t n (λ i h. e i (omega arith)))

pub sum_below-zero : (t : ℕ → ℤ) (n : ℕ) → ((i : ℕ) → i < n → t i ≡ pos 0) → sum_below t n ≡ pos 0
sum_below-zero t zero e = refl
sum_below-zero t (suc n) e = omega (arith, ints, e n (omega arith), sum_below-zero t n (λ i h. e i (omega arith)))

-- sums over rows and over columns exchanged
pub sums_exchanged : (t : ℕ → ℕ → ℤ) (n m : ℕ) → sum_below (λ i. sum_below (t i) m) n ≡ sum_below (λ j. sum_below (λ i. t i j) n) m
sums_exchanged t zero m = sym (sum_below-zero (λ j. pos 0) m (λ j h. refl))
sums_exchanged t (suc n) m =
    ap (λ z. z +ℤ sum_below (t n) m) (sums_exchanged t n m) ∙ sym (sum_below-add (λ j. sum_below (λ i. t i j) n) (t n) m)

-- the sum of a term that stands at one place
sum_past : (f : ℕ → ℤ) (k n : ℕ) → n ≤ k → sum_below (λ j. when (eqb k j) (f j)) n ≡ pos 0
sum_past f k zero h = refl
sum_past f k (suc n) h =
    let ne : k ≢ n = omega arith in
    rw (ne_eqb k n ne) (omega (arith, ints, sum_past f k n (omega arith)))

sum_at : (f : ℕ → ℤ) (k n : ℕ) → k < n → sum_below (λ j. when (eqb k j) (f j)) n ≡ f k
sum_at f k zero h = absurd (omega arith)
sum_at f k (suc n) h =
    elim (cases_eq k n) [
      | inl e ↦ rw (eq-eqb k n e) (omega (arith, ints, sum_past f k n (omega arith), ap f e))
      | inr ne ↦ rw (ne_eqb k n ne) (omega (arith, ints, sum_at f k n (omega arith)))
    ]

pub sum_one : (f : ℕ → ℤ) (k n : ℕ) → sum_below (λ j. when (eqb k j) (f j)) n ≡ when (ltb k n) (f k)
sum_one f k n =
    elim (cases_lt k n) [
      | inl less ↦ rw (lt-ltb k n less) (sum_at f k n less)
      | inr more ↦ rw (le-ltb k n more) (sum_past f k n more)
    ]

-- a test that passes at one place at most: the sum of z over the places that pass
pub one_at_most : (p : ℕ → Bool) (z : ℤ) (n : ℕ) → ((i k : ℕ) → i < n → k < n → p i ≡ true → p k ≡ true → i ≡ k)
    → ((i : ℕ) × (i < n) × (p i ≡ true) × (sum_below (λ i. when (p i) z) n ≡ z)) ⊎ (((i : ℕ) → i < n → p i ≡ false) × (sum_below (λ i. when (p i) z) n ≡ pos 0))
one_at_most p z zero d = inr ((λ i h. absurd (omega arith)), refl)
one_at_most p z (suc n) d =
    let before = one_at_most p z n (λ i k h g. d i k (omega arith) (omega arith)) in
    elim (cases_Bool (p n)) [
      | inl passes ↦
          let none : (i : ℕ) → i < n → when (p i) z ≡ pos 0 =
          λ i h. elim (cases_Bool (p i)) [
            | inl also ↦ absurd (let e : i ≡ n = d i n (omega arith) (omega arith) also passes in omega arith)
            | inr fails ↦ ap (λ b. when b z) fails
          ] in
          inl (n, omega arith, passes, omega (arith, ints, ap (λ b. when b z) passes, sum_below-zero (λ i. when (p i) z) n none))
      | inr fails ↦ elim before [
        | inl some ↦ inl (some.0, omega (arith, some.1), some.2, omega (arith, ints, ap (λ b. when b z) fails, some.3))
        | inr none ↦ inr (
          (λ i h. elim (cases_eq i n) [ inl e ↦ ap p e ∙ fails | inr ne ↦ none.0 i (omega arith) ]),
          omega (arith, ints, ap (λ b. when b z) fails, none.1),
        )
      ]
    ]

-- terms that are 1 at most, and add up to as many as there are places
pub at_most_count : (t : ℕ → ℤ) (n : ℕ) → ((i : ℕ) → i < n → t i ≤ℤ pos 1) → sum_below t n ≤ℤ pos n
at_most_count t zero h = omega (arith, ints)
at_most_count t (suc n) h = omega (arith, ints, h n (omega arith), at_most_count t n (λ i b. h i (omega arith)))

pub full_sum : (t : ℕ → ℤ) (n : ℕ) → ((i : ℕ) → i < n → t i ≤ℤ pos 1) → pos n ≤ℤ sum_below t n → (i : ℕ) → i < n → t i ≡ pos 1
full_sum t zero h e i b = absurd (omega arith)
full_sum t (suc n) h e i b =
    let most = at_most_count t n (λ i b. h i (omega arith)) in
    let last : t n ≡ pos 1 = omega (arith, ints, most, h n (omega arith), e) in
    elim (cases_eq i n) [
      | inl same ↦ ap t same ∙ last
      | inr other ↦ full_sum t n (λ i b. h i (omega arith)) (omega (arith, ints, last, e)) i (omega arith)
    ]

-- a count as a sum
pub count_so_far : (p : ℕ → Bool) (xs : List ℕ) (n : ℕ) → n ≤ length xs → pos (count_by p (take n xs)) ≡ sum_below (λ i. when (p (get_or xs i 0)) (pos 1)) n
count_so_far p xs zero h = refl
count_so_far p xs (suc n) h =
    let before = count_so_far p xs n (omega arith) in
    elim (cases_Bool (p (get_or xs n 0))) [
      | inl passes ↦ omega (arith, ints, before, ap (λ b. when b (pos 1)) passes, rw add-one at (count_by_more_yes p xs n 0 (omega arith) passes))
      | inr fails ↦ omega (arith, ints, before, ap (λ b. when b (pos 1)) fails, rw add-one at (count_by_more_no p xs n 0 (omega arith) fails))
    ]

pub count_is_sum : (p : ℕ → Bool) (xs : List ℕ) → pos (count_by p xs) ≡ sum_below (λ i. when (p (get_or xs i 0)) (pos 1)) (length xs)
count_is_sum p xs = ap (λ (ys : List ℕ). pos (count_by p ys)) (sym (take_all (length xs) xs (omega arith))) ∙ count_so_far p xs (length xs) (omega arith)

-- one place more, as a loop takes it
pub sum_below_next : (t : ℕ → ℤ) (n : ℕ) → sum_below t (n + 1) ≡ sum_below t n +ℤ t n
sum_below_next t n = rw add-one refl
