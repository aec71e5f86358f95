-- A matching that prices show is least, and costs the sum of the prices.
use Rattle.std.proofs.Common.{refl, List, ◌≡◌, ℕ, ◌<◌, ltb, Bool, true, false, Option, Some, None, IsSome, IfSome, get_or, unwrap_or, inl, inr, ap, sym, ◌∙◌, arith, ℤ, pos, ◌+ℤ◌, ◌-ℤ◌, ◌≤ℤ◌}
use Rattle.std.proofs.lemmas.Bool.{cases_lt, lt-ltb, le-ltb}
use Rattle.std.proofs.lemmas.Int.{ints}
use Rattle.mcf_flows.specs.Network.{when}
use Rattle.mcf_matrix.specs.Costs.{Costs}
use Rattle.mcf_matrix.specs.Laws.{ShownMatchingsAreLeast, ShownMatchingsCostThePrices}
use Rattle.mcf_matrix.specs.Matchings.{IsMatching, matching_cost, pair_cost}
use Rattle.mcf_matrix.specs.MatrixPrices.{AreFeasiblePrices, AreMatrixPrices, AreTight, price_total}
use Rattle.mcf_matrix.specs.PlaceSums.{at_place, sum_below}
use Rattle.mcf_matrix.proofs.Matched.{at_column, by_columns, column_cases, column_is_matched, row_is_matched}
use Rattle.mcf_matrix.proofs.PlaceSums.{sum_below-add, sum_below-le, sum_below-same}

-- what a row's price, and that of its column, add if it has one
abbrev pub pair_prices : Costs → List ℕ → List ℤ → List ℤ → ℕ → ℤ
pair_prices m x u v i = when (ltb (get_or x i 0) m.columns) (at_place u i +ℤ at_place v (get_or x i 0))

cost_at_least : (o : Option ℤ) (a b : ℤ) → IsSome o → IfSome o (λ c. pos 0 ≤ℤ (c -ℤ a -ℤ b)) → (a +ℤ b) ≤ℤ unwrap_or o (pos 0)
cost_at_least None a b some h = absurd (cc)
cost_at_least (Some c) a b some h = omega (arith, ints, h)

cost_is : (o : Option ℤ) (a b : ℤ) → IsSome o → IfSome o (λ c. c -ℤ a -ℤ b ≡ pos 0) → unwrap_or o (pos 0) ≡ a +ℤ b
cost_is None a b some h = absurd (cc)
cost_is (Some c) a b some h = omega (arith, ints, h)

pair_at_least : (m : Costs) (x : List ℕ) (u v : List ℤ) (i : ℕ) → IsMatching m x → AreFeasiblePrices m u v → i < m.rows → pair_prices m x u v i ≤ℤ pair_cost m x i
pair_at_least m x u v i matching feasible b =
    elim (cases_lt (get_or x i 0) m.columns) [
      | inl less ↦ rw (lt-ltb (get_or x i 0) m.columns less) (cost_at_least (m.cost i (get_or x i 0)) (at_place u i) (at_place v (get_or x i 0))
          (matching.allowed i (get_or x i 0) (b, less, refl)) (feasible.none_below i (get_or x i 0) (b, less)))
      | inr more ↦ rw (le-ltb (get_or x i 0) m.columns more) (omega (arith, ints))
    ]

pair_is : (m : Costs) (x : List ℕ) (u v : List ℤ) (i : ℕ) → IsMatching m x → AreTight m x u v → i < m.rows → pair_cost m x i ≡ pair_prices m x u v i
pair_is m x u v i matching tight b =
    elim (cases_lt (get_or x i 0) m.columns) [
      | inl less ↦ rw (lt-ltb (get_or x i 0) m.columns less) (cost_is (m.cost i (get_or x i 0)) (at_place u i) (at_place v (get_or x i 0))
          (matching.allowed i (get_or x i 0) (b, less, refl)) (tight i (get_or x i 0) (b, less, refl)))
      | inr more ↦ rw (le-ltb (get_or x i 0) m.columns more) refl
    ]

when-add : (b : Bool) (y z : ℤ) → when b (y +ℤ z) ≡ when b y +ℤ when b z
when-add true y z = refl
when-add false y z = refl

-- the prices of matched rows, and those of their columns, apart
prices_apart : (m : Costs) (x : List ℕ) (u v : List ℤ)
    → sum_below (pair_prices m x u v) m.rows ≡ sum_below (λ i. when (ltb (get_or x i 0) m.columns) (at_place u i)) m.rows
    +ℤ sum_below (λ j. at_column m x (at_place v j) j) m.columns
prices_apart m x u v =
    sum_below-same _ (λ i. when (ltb (get_or x i 0) m.columns) (at_place u i) +ℤ when (ltb (get_or x i 0) m.columns) (at_place v (get_or x i 0))) m.rows
    (λ i h. when-add (ltb (get_or x i 0) m.columns) (at_place u i) (at_place v (get_or x i 0)))
    ∙ sum_below-add (λ i. when (ltb (get_or x i 0) m.columns) (at_place u i)) (λ i. when (ltb (get_or x i 0) m.columns) (at_place v (get_or x i 0))) m.rows
    ∙ ap (λ z. sum_below (λ i. when (ltb (get_or x i 0) m.columns) (at_place u i)) m.rows +ℤ z) (by_columns m x (at_place v))

-- any matching takes at least all prices
row_kept : (m : Costs) (x y : List ℕ) (u v : List ℤ) (i : ℕ) → IsMatching m y → AreMatrixPrices m x u v → i < m.rows
    → at_place u i ≤ℤ when (ltb (get_or y i 0) m.columns) (at_place u i)
row_kept m x y u v i matching prices b =
    elim (cases_lt (get_or y i 0) m.columns) [
      | inl less ↦ rw (lt-ltb (get_or y i 0) m.columns less) (omega (arith, ints))
      | inr more ↦ rw (le-ltb (get_or y i 0) m.columns more) (elim (cases_lt m.columns m.rows) [
        | inl rows ↦ (prices.rows_priced rows i b).0
        | inr columns ↦ absurd (omega (arith, row_is_matched m y i matching columns b))
      ])
    ]

column_kept : (m : Costs) (x y : List ℕ) (u v : List ℤ) (j : ℕ) → IsMatching m y → AreMatrixPrices m x u v → j < m.columns
    → at_place v j ≤ℤ at_column m y (at_place v j) j
column_kept m x y u v j matching prices b =
    elim (column_cases m y (at_place v j) j matching b) [
      | inl some ↦ omega (arith, ints, some.1)
      | inr none ↦ elim (cases_lt m.rows m.columns) [
        | inl columns ↦ let low = (prices.columns_priced columns j b).0 in omega (arith, ints, none.1, low)
        | inr rows ↦ let pair = column_is_matched m y j matching rows b in absurd (none.0 pair.0 pair.1)
      ]
    ]

pub prices_at_most : (m : Costs) (x y : List ℕ) (u v : List ℤ) → IsMatching m y → AreMatrixPrices m x u v → price_total m u v ≤ℤ matching_cost m y
prices_at_most m x y u v matching prices =
    let rows = sum_below-le (at_place u) (λ i. when (ltb (get_or y i 0) m.columns) (at_place u i)) m.rows (λ i b. row_kept m x y u v i matching prices b) in
    let columns = sum_below-le (at_place v) (λ j. at_column m y (at_place v j) j) m.columns (λ j b. column_kept m x y u v j matching prices b) in
    let costs = sum_below-le (pair_prices m y u v) (pair_cost m y) m.rows (λ i b. pair_at_least m y u v i matching prices.feasible b) in
    omega (arith, ints, rows, columns, costs, prices_apart m y u v)

-- the matching of the prices takes exactly them
row_taken : (m : Costs) (x : List ℕ) (u v : List ℤ) (i : ℕ) → IsMatching m x → AreMatrixPrices m x u v → i < m.rows
    → when (ltb (get_or x i 0) m.columns) (at_place u i) ≡ at_place u i
row_taken m x u v i matching prices b =
    elim (cases_lt (get_or x i 0) m.columns) [
      | inl less ↦ rw (lt-ltb (get_or x i 0) m.columns less) refl
      | inr more ↦ rw (le-ltb (get_or x i 0) m.columns more) (elim (cases_lt m.columns m.rows) [
        | inl rows ↦ sym ((prices.rows_priced rows i b).1 more)
        | inr columns ↦ absurd (omega (arith, row_is_matched m x i matching columns b))
      ])
    ]

column_taken : (m : Costs) (x : List ℕ) (u v : List ℤ) (j : ℕ) → IsMatching m x → AreMatrixPrices m x u v → j < m.columns
    → at_column m x (at_place v j) j ≡ at_place v j
column_taken m x u v j matching prices b =
    elim (column_cases m x (at_place v j) j matching b) [
      | inl some ↦ some.1
      | inr none ↦ elim (cases_lt m.rows m.columns) [
        | inl columns ↦ none.1 ∙ sym ((prices.columns_priced columns j b).1 none.0)
        | inr rows ↦ let pair = column_is_matched m x j matching rows b in absurd (none.0 pair.0 pair.1)
      ]
    ]

pub shown_matchings_cost_the_prices_lem : ShownMatchingsCostThePrices
shown_matchings_cost_the_prices_lem m x u v shown =
    sum_below-same (pair_cost m x) (pair_prices m x u v) m.rows (λ i b. pair_is m x u v i shown.matching shown.prices.tight b)
    ∙ prices_apart m x u v
    ∙ ap (λ z. z +ℤ sum_below (λ j. at_column m x (at_place v j) j) m.columns)
    (sum_below-same _ (at_place u) m.rows (λ i b. row_taken m x u v i shown.matching shown.prices b))
    ∙ ap (λ z. sum_below (at_place u) m.rows +ℤ z)
    (sum_below-same _ (at_place v) m.columns (λ j b. column_taken m x u v j shown.matching shown.prices b))

pub shown_matchings_are_least_lem : ShownMatchingsAreLeast
shown_matchings_are_least_lem m x u v shown =
    record {
      matching = shown.matching;
      least = λ other o. omega (arith, ints, shown_matchings_cost_the_prices_lem m x u v shown, prices_at_most m x other u v o shown.prices);
    }
