-- Matchings of rows with columns, with as many pairs as the smaller of both sides has rows or
-- columns. A list has the column of each row, in order; any other number stands for no column.
-- Source: AMO 12.4, Kuhn 1955
use Rattle.std.specs.Prelude.{◌≡◌, ℕ, ◌<◌, ◌≤◌, min, nat_lt, List, length, count_by, ℤ, pos, ◌≤ℤ◌, slice_index, unwrap_or}
use Rattle.mcf_flows.specs.Network.{when}
use Rattle.mcf_matrix.specs.Costs.{Costs, IsAllowed}
use Rattle.mcf_matrix.specs.PlaceSums.{sum_below}

-- row i is matched with column j
abbrev pub IsPair : Costs → List ℕ → ℕ → ℕ → Type 0
IsPair m x i j = (i < m.rows) × (j < m.columns) × (slice_index x i ≡ j)

-- no row is matched with column j
abbrev pub IsFreeColumn : Costs → List ℕ → ℕ → Type 0
IsFreeColumn m x j = (i : ℕ) → ¬ IsPair m x i j

-- row i is matched with no column
abbrev pub IsFreeRow : Costs → List ℕ → ℕ → Type 0
IsFreeRow m x i = m.columns ≤ slice_index x i

-- the number of matched rows
abbrev pub pair_count : Costs → List ℕ → ℕ
pair_count m x = count_by (λ j. nat_lt j m.columns) x

-- all pairs are allowed, no column has two rows, and there are as many pairs as the smaller of both
-- sides has rows or columns
pub record IsMatching (m : Costs) (x : List ℕ) : Type 0 where
  pub one_per_row : length x ≡ m.rows
  pub allowed : (i j : ℕ) → IsPair m x i j → IsAllowed m i j
  pub distinct : (i k j : ℕ) → IsPair m x i j → IsPair m x k j → i ≡ k
  pub full : pair_count m x ≡ min m.rows m.columns

-- the cost of row i's pair, or 0 if it has none
abbrev pub pair_cost : Costs → List ℕ → ℕ → ℤ
pair_cost m x i = when (nat_lt (slice_index x i) m.columns) (unwrap_or (m.cost i (slice_index x i)) (pos 0))

-- the sum of the costs of all pairs
abbrev pub matching_cost : Costs → List ℕ → ℤ
matching_cost m x = sum_below (pair_cost m x) m.rows

-- no matching costs less
pub record IsLeastMatching (m : Costs) (x : List ℕ) : Type 0 where
  pub matching : IsMatching m x
  pub least : (other : List ℕ) → IsMatching m other → matching_cost m x ≤ℤ matching_cost m other
