-- Which rows and columns a matching matches.
use Rattle.std.proofs.Common.{List, ◌≡◌, ℕ, ◌<◌, ◌≤◌, eqb, ltb, Bool, true, false, get_or, ◌⊎◌, inl, inr, ap, sym, ◌∙◌, arith, ℤ, pos, ◌≤ℤ◌}
use Rattle.std.proofs.lemmas.Bool.{cases_lt, eqb-true, le-ltb, eq-eqb}
use Rattle.std.proofs.lemmas.Int.{ints}
use Rattle.mcf_flows.specs.Network.{when}
use Rattle.mcf_matrix.specs.Costs.{Costs}
use Rattle.mcf_matrix.specs.Matchings.{IsFreeColumn, IsMatching, IsPair, pair_count}
use Rattle.mcf_matrix.specs.PlaceSums.{sum_below}
use Rattle.mcf_matrix.proofs.PlaceSums.{count_is_sum, full_sum, one_at_most, sum_below-same, sum_one, sums_exchanged}

-- the rows that are matched with a column, weighed by z
abbrev pub at_column : Costs → List ℕ → ℤ → ℕ → ℤ
at_column m x z j = sum_below (λ i. when (eqb (get_or x i 0) j) z) m.rows

-- the row of a column, if it has one
pub column_cases : (m : Costs) (x : List ℕ) (z : ℤ) (j : ℕ) → IsMatching m x → j < m.columns
    → (((i : ℕ) × IsPair m x i j) × (at_column m x z j ≡ z)) ⊎ (IsFreeColumn m x j × (at_column m x z j ≡ pos 0))
column_cases m x z j matching b =
    elim (one_at_most (λ i. eqb (get_or x i 0) j) z m.rows (λ i k h g p q. matching.distinct i k j (h, b, eqb-true (get_or x i 0) j p) (g, b, eqb-true (get_or x k 0) j q))) [
      | inl some ↦ inl ((some.0, (some.1, b, eqb-true (get_or x some.0 0) j some.2)), some.3)
      | inr none ↦ inr ((λ i pair. false_eq i pair (none.0 i pair.0)), none.1)
    ]
  where
    false_eq : (i : ℕ) → IsPair m x i j → eqb (get_or x i 0) j ≡ false → ⊥
    false_eq i pair nope = let passes : eqb (get_or x i 0) j ≡ true = eq-eqb (get_or x i 0) j pair.2 in (cc)

-- a sum over matched rows, of a term of their columns, as a sum over columns
pub by_columns : (m : Costs) (x : List ℕ) (f : ℕ → ℤ)
    → sum_below (λ i. when (ltb (get_or x i 0) m.columns) (f (get_or x i 0))) m.rows ≡ sum_below (λ j. at_column m x (f j) j) m.columns
by_columns m x f =
    sum_below-same _ (λ i. sum_below (λ j. when (eqb (get_or x i 0) j) (f j)) m.columns) m.rows (λ i h. sym (sum_one f (get_or x i 0) m.columns))
    ∙ sums_exchanged (λ i j. when (eqb (get_or x i 0) j) (f j)) m.rows m.columns

-- the count of pairs, as a sum
pub pairs_as_sum : (m : Costs) (x : List ℕ) → IsMatching m x
    → pos (pair_count m x) ≡ sum_below (λ i. when (ltb (get_or x i 0) m.columns) (pos 1)) m.rows
pairs_as_sum m x matching =
    count_is_sum (λ j. ltb j m.columns) x ∙ ap (sum_below (λ i. when (ltb (get_or x i 0) m.columns) (pos 1))) matching.one_per_row

one_most : (b : Bool) → when b (pos 1) ≤ℤ pos 1
one_most true = omega (arith, ints)
one_most false = omega (arith, ints)

-- where rows aren't more than columns, each row is matched
pub row_is_matched : (m : Costs) (x : List ℕ) (i : ℕ) → IsMatching m x → m.rows ≤ m.columns → i < m.rows → get_or x i 0 < m.columns
row_is_matched m x i matching few b =
    let e = pairs_as_sum m x matching in
    let full = matching.full in
    let one : when (ltb (get_or x i 0) m.columns) (pos 1) ≡ pos 1 =
    full_sum (λ i. when (ltb (get_or x i 0) m.columns) (pos 1)) m.rows (λ i h. one_most (ltb (get_or x i 0) m.columns)) (omega (arith, ints, e, full)) i b in
    elim (cases_lt (get_or x i 0) m.columns) [
      | inl less ↦ less
      | inr more ↦ absurd (let nope = ap (λ b. when b (pos 1)) (le-ltb (get_or x i 0) m.columns more) in omega (arith, ints, one, nope))
    ]

-- where columns aren't more than rows, each column is matched
pub column_is_matched : (m : Costs) (x : List ℕ) (j : ℕ) → IsMatching m x → m.columns ≤ m.rows → j < m.columns → (i : ℕ) × IsPair m x i j
column_is_matched m x j matching few b =
    let e = pairs_as_sum m x matching in
    let f = by_columns m x (λ j. pos 1) in
    let full = matching.full in
    let one : at_column m x (pos 1) j ≡ pos 1 =
    full_sum (at_column m x (pos 1)) m.columns (λ j h. most j h) (omega (arith, ints, e, f, full)) j b in
    elim (column_cases m x (pos 1) j matching b) [
      | inl some ↦ some.0
      | inr none ↦ absurd (omega (arith, ints, one, none.1))
    ]
  where
    most : (j : ℕ) → j < m.columns → at_column m x (pos 1) j ≤ℤ pos 1
    most j h = elim (column_cases m x (pos 1) j matching h) [ inl some ↦ omega (arith, ints, some.1) | inr none ↦ omega (arith, ints, none.1) ]
