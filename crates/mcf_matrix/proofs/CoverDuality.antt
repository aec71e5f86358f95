-- Where a cover is short, there is no matching.
use Rattle.std.proofs.Common.{refl, ◌≡◌, ℕ, ◌<◌, ◌≤◌, ltb, Bool, true, false, IsTrue, List, length, get_or, take, suc, zero, ◌⊎◌, inl, inr, ap, sym, ◌∙◌, arith, pos, ◌+ℤ◌, ◌≤ℤ◌, add-one}
use Rattle.std.proofs.lemmas.Bool.{cases_lt, cases_Bool, le-ltb}
use Rattle.std.proofs.lemmas.Int.{ints}
use Rattle.std.proofs.lemmas.List.{take_all}
use Rattle.std.proofs.lemmas.List.Sums.{count_by_more_yes, count_by_more_no}
use Rattle.mcf_flows.specs.Network.{when}
use Rattle.mcf_matrix.specs.Laws.{CoveredHasNoMatching}
use Rattle.mcf_matrix.specs.PlaceSums.{is_marked, mark_count, sum_below}
use Rattle.mcf_matrix.proofs.Matched.{at_column, by_columns, column_cases, pairs_as_sum}
use Rattle.mcf_matrix.proofs.PlaceSums.{sum_below-add, sum_below-le}

-- the count of marks, as a sum
marks_so_far : (xs : List Bool) (n : ℕ) → n ≤ length xs → pos (mark_count (take n xs)) ≡ sum_below (λ i. when (is_marked xs i) (pos 1)) n
marks_so_far xs zero h = refl
marks_so_far xs (suc n) h =
    let before = marks_so_far xs n (omega arith) in
    elim (cases_Bool (is_marked xs n)) [
      | inl passes ↦ omega (arith, ints, before, ap (λ b. when b (pos 1)) passes, rw add-one at (count_by_more_yes (λ b. b) xs n false (omega arith) passes))
      | inr fails ↦ omega (arith, ints, before, ap (λ b. when b (pos 1)) fails, rw add-one at (count_by_more_no (λ b. b) xs n false (omega arith) fails))
    ]

marks_as_sum : (xs : List Bool) (n : ℕ) → length xs ≡ n → pos (mark_count xs) ≡ sum_below (λ i. when (is_marked xs i) (pos 1)) n
marks_as_sum xs n e =
    ap (λ (ys : List Bool). pos (mark_count ys)) (sym (take_all n xs (omega (arith, e)))) ∙ marks_so_far xs n (omega (arith, e))

-- a pair counts for its row or for its column
covered : (a b c : Bool) → (a ≡ true → IsTrue b ⊎ IsTrue c) → when a (pos 1) ≤ℤ (when b (pos 1) +ℤ when a (when c (pos 1)))
covered true true true h = omega (arith, ints)
covered true true false h = omega (arith, ints)
covered true false true h = omega (arith, ints)
covered true false false h = elim (h refl) [ inl b ↦ absurd (cc) | inr c ↦ absurd (cc) ]
covered false true c h = omega (arith, ints)
covered false false c h = omega (arith, ints)

least_mark : (b : Bool) → pos 0 ≤ℤ when b (pos 1)
least_mark true = omega (arith, ints)
least_mark false = omega (arith, ints)

pub covered_has_no_matching_lem : CoveredHasNoMatching
covered_has_no_matching_lem m rows columns x cover matching =
    let pairs = pairs_as_sum m x matching in
    let apart = sum_below-add (λ i. when (is_marked rows i) (pos 1)) (λ i. when (ltb (get_or x i 0) m.columns) (when (is_marked columns (get_or x i 0)) (pos 1))) m.rows in
    let each = sum_below-le (λ i. when (ltb (get_or x i 0) m.columns) (pos 1))
    (λ i. when (is_marked rows i) (pos 1) +ℤ when (ltb (get_or x i 0) m.columns) (when (is_marked columns (get_or x i 0)) (pos 1))) m.rows (λ i h. at_row i h) in
    let turned = by_columns m x (λ j. when (is_marked columns j) (pos 1)) in
    let most = sum_below-le (λ j. at_column m x (when (is_marked columns j) (pos 1)) j) (λ j. when (is_marked columns j) (pos 1)) m.columns (λ j h. at_most j h) in
    let full = matching.full in
    let short = cover.short in
    omega (arith, ints, pairs, apart, each, turned, most, full, short, marks_as_sum rows m.rows cover.one_per_row, marks_as_sum columns m.columns cover.one_per_column)
  where
    at_row : (i : ℕ) → i < m.rows → when (ltb (get_or x i 0) m.columns) (pos 1) ≤ℤ
        (when (is_marked rows i) (pos 1) +ℤ when (ltb (get_or x i 0) m.columns) (when (is_marked columns (get_or x i 0)) (pos 1)))
    at_row i h =
        elim (cases_lt (get_or x i 0) m.columns) [
          | inl less ↦ covered (ltb (get_or x i 0) m.columns) (is_marked rows i) (is_marked columns (get_or x i 0))
              (λ passes. cover.covers i (get_or x i 0) (h, less) (matching.allowed i (get_or x i 0) (h, less, refl)))
          | inr more ↦ covered (ltb (get_or x i 0) m.columns) (is_marked rows i) (is_marked columns (get_or x i 0))
              (λ passes. absurd (let fails = le-ltb (get_or x i 0) m.columns more in (cc)))
        ]

    at_most : (j : ℕ) → j < m.columns → at_column m x (when (is_marked columns j) (pos 1)) j ≤ℤ when (is_marked columns j) (pos 1)
    at_most j h =
        elim (column_cases m x (when (is_marked columns j) (pos 1)) j matching h) [
          | inl some ↦ omega (arith, ints, some.1)
          | inr none ↦ omega (arith, ints, none.1, least_mark (is_marked columns j))
        ]
