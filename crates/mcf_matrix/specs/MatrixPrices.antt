-- Prices of rows and columns, and which of them show a matching least: the dual solution and
-- complementary slackness.
-- Source: AMO 12.4, Kuhn 1955, Munkres 1957
use Rattle.std.specs.Prelude.{◌≡◌, ℕ, ◌<◌, IfSome, List, length, ℤ, pos, ◌+ℤ◌, ◌-ℤ◌, ◌≤ℤ◌}
use Rattle.mcf_matrix.specs.Costs.{Costs, IsPlace}
use Rattle.mcf_matrix.specs.Matchings.{IsFreeColumn, IsFreeRow, IsMatching, IsPair}
use Rattle.mcf_matrix.specs.PlaceSums.{at_place, sum_below}

-- the reduced cost of row i and column j: the cost minus both prices
abbrev pub reduced_cost : List ℤ → List ℤ → ℕ → ℕ → ℤ → ℤ
reduced_cost u v i j cost = cost -ℤ at_place u i -ℤ at_place v j

-- no allowed pair has a reduced cost below 0
abbrev pub AreNoneBelow : Costs → List ℤ → List ℤ → Type 0
AreNoneBelow m u v = (i j : ℕ) → IsPlace m i j → IfSome (m.cost i j) (λ c. pos 0 ≤ℤ reduced_cost u v i j c)

-- one price for each row and one for each column, such that no reduced cost is below 0
pub record AreFeasiblePrices (m : Costs) (u v : List ℤ) : Type 0 where
  pub one_per_row : length u ≡ m.rows
  pub one_per_column : length v ≡ m.columns
  pub none_below : AreNoneBelow m u v

-- the reduced cost of each pair of the matching is 0
abbrev pub AreTight : Costs → List ℕ → List ℤ → List ℤ → Type 0
AreTight m x u v = (i j : ℕ) → IsPair m x i j → IfSome (m.cost i j) (λ c. reduced_cost u v i j c ≡ pos 0)

-- if there are more columns than rows, no column's price is above 0, and that of a free column is 0
abbrev pub AreColumnsPriced : Costs → List ℕ → List ℤ → Type 0
AreColumnsPriced m x v = m.rows < m.columns → (j : ℕ) → j < m.columns → (at_place v j ≤ℤ pos 0) × (IsFreeColumn m x j → at_place v j ≡ pos 0)

-- if there are more rows than columns, no row's price is above 0, and that of a free row is 0
abbrev pub AreRowsPriced : Costs → List ℕ → List ℤ → Type 0
AreRowsPriced m x u = m.columns < m.rows → (i : ℕ) → i < m.rows → (at_place u i ≤ℤ pos 0) × (IsFreeRow m x i → at_place u i ≡ pos 0)

-- prices that show a matching to be least
pub record AreMatrixPrices (m : Costs) (x : List ℕ) (u v : List ℤ) : Type 0 where
  pub feasible : AreFeasiblePrices m u v
  pub tight : AreTight m x u v
  pub columns_priced : AreColumnsPriced m x v
  pub rows_priced : AreRowsPriced m x u

-- a matching with prices that show it to be least
pub record IsShownMatching (m : Costs) (x : List ℕ) (u v : List ℤ) : Type 0 where
  pub matching : IsMatching m x
  pub prices : AreMatrixPrices m x u v

-- the sum of the prices of all rows and columns
abbrev pub price_total : Costs → List ℤ → List ℤ → ℤ
price_total m u v = sum_below (at_place u) m.rows +ℤ sum_below (at_place v) m.columns
