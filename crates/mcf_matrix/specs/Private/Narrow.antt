-- Rows of a matrix with their prices.
use Rattle.std.specs.Prelude.{◌≡◌, ℕ, ◌<◌, ◌-◌, ◌^◌, Bool, IfSome, IsSome, List, length, ℤ, pos, ◌-ℤ◌, ◌≤ℤ◌}
use Rattle.mcf_flows.specs.WellFormed.{IsUpTo}
use Rattle.mcf_matrix.specs.PlaceSums.{at_place, is_marked}
use Rattle.mcf_matrix.specs.Tables.{cost_of}

-- two such numbers have a sum that fits 64 bits, and is less than the greatest
abbrev pub IsNarrow : ℤ → Type 0
IsNarrow z = IsUpTo (2 ^ 62 - 1) z

-- no reduced cost of a row is below 0
abbrev pub RowHolds : List ℤ → ℤ → List ℤ → Type 0
RowHolds row price prices = (j : ℕ) → j < length row → IfSome (cost_of (at_place row j)) (λ c. pos 0 ≤ℤ (c -ℤ price -ℤ at_place prices j))

-- the column of each allowed pair of a row has this mark
abbrev pub RowIsCovered : List ℤ → List Bool → Bool → Type 0
RowIsCovered row columns mark = (j : ℕ) → j < length row → IsSome (cost_of (at_place row j)) → is_marked columns j ≡ mark
