-- What a judge asks of a matrix with its prices, place by place.
-- Source: own
use Rattle.std.specs.Prelude.{◌≡◌, ℕ, ◌<◌, IfSome, Bool, false, List, ℤ, pos, ◌≤ℤ◌}
use Rattle.mcf_matrix.specs.Costs.{Costs, IsAllowed}
use Rattle.mcf_matrix.specs.MatrixPrices.{reduced_cost}
use Rattle.mcf_matrix.specs.PlaceSums.{is_marked}

-- the pair is allowed and its reduced cost is 0
abbrev pub IsGoodPair : Costs → List ℤ → List ℤ → ℕ → ℕ → Type 0
IsGoodPair m u v i j = IsAllowed m i j × IfSome (m.cost i j) (λ c. reduced_cost u v i j c ≡ pos 0)

-- the price isn't above 0, and is 0 where the place isn't matched
abbrev pub IsPricedPlace : ℤ → Bool → Type 0
IsPricedPlace price is_matched = (price ≤ℤ pos 0) × (is_matched ≡ false → price ≡ pos 0)

-- an entry for each row, a price for each row and a price for each column
pub record HasLengths (rows columns entries row_prices column_prices : ℕ) : Type 0 where
  pub entries_are : entries ≡ rows
  pub row_prices_are : row_prices ≡ rows
  pub column_prices_are : column_prices ≡ columns

-- the column of each allowed pair of row i has this mark
abbrev pub IsRowCovered : Costs → ℕ → List Bool → Bool → Type 0
IsRowCovered m i columns mark = (j : ℕ) → j < m.columns → IsAllowed m i j → is_marked columns j ≡ mark
