-- Prices of a matrix of doubles: whole numbers of one power of 2.
-- Source: own
use Rattle.std.specs.Prelude.{◌≡◌, ℕ, ◌-◌, ◌<◌, ◌^◌, Bool, IfSome, IsSome, List, length, map, ℤ, pos, ◌*ℤ◌, ◌-ℤ◌, ◌≤ℤ◌, slice_index}
use Rattle.mcf_flows.specs.WellFormed.{IsUpTo}
use Rattle.mcf_matrix.specs.PlaceSums.{at_place, is_marked}
use Rattle.mcf_matrix_doubles.specs.Doubles.{double_cost}

-- prices in units of 2^unit, as the whole numbers that they stand for
abbrev pub in_units : ℕ → List ℤ → List ℤ
in_units unit prices = map (λ z. z *ℤ pos (2 ^ unit)) prices

-- each price is less than 2^125 from 0
abbrev pub AreSmallPrices : List ℤ → Type 0
AreSmallPrices prices = (i : ℕ) → i < length prices → IsUpTo (2 ^ 125 - 1) (at_place prices i)

-- a small price for each row and each column
pub record AreReadyPrices (rows columns : ℕ) (u v : List ℤ) : Type 0 where
  pub one_per_row : length u ≡ rows
  pub one_per_column : length v ≡ columns
  pub small_rows : AreSmallPrices u
  pub small_columns : AreSmallPrices v

-- the entry forbids its pair, or its reduced cost isn't below 0
abbrev pub IsCovering : ℕ → ℤ → ℤ → ℕ → Type 0
IsCovering bits row_price column_price unit = IfSome (double_cost bits) (λ c. pos 0 ≤ℤ (c -ℤ row_price *ℤ pos (2 ^ unit) -ℤ column_price *ℤ pos (2 ^ unit)))

-- no reduced cost of a row is below 0
abbrev pub RowHolds : List ℕ → ℤ → List ℤ → ℕ → Type 0
RowHolds row price prices unit = (j : ℕ) → j < length row → IsCovering (slice_index row j) price (at_place prices j) unit

-- the column of each allowed pair of a row has this mark
abbrev pub RowIsCovered : List ℕ → List Bool → Bool → Type 0
RowIsCovered row columns mark = (j : ℕ) → j < length row → IsSome (double_cost (slice_index row j)) → is_marked columns j ≡ mark
