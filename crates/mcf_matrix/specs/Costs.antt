-- The cost of each pair of a row and a column. Rows and columns count from 0 here, as the places of
-- an array do.
-- Source: textbook
use Rattle.std.specs.Prelude.{ℕ, ◌<◌, Option, IsSome, IfSome, ℤ}
use Rattle.mcf_flows.specs.Limits.{limits}
use Rattle.mcf_flows.specs.WellFormed.{IsUpTo}

-- the numbers of rows and columns, and the cost of each pair; a pair without a cost is forbidden
-- Source: AMO 12.4
pub record Costs : Type 0 where
  pub rows : ℕ
  pub columns : ℕ
  pub cost : ℕ → ℕ → Option ℤ

-- i is a row, and j is a column
-- Source: own
abbrev pub IsPlace : Costs → ℕ → ℕ → Type 0
IsPlace m i j = (i < m.rows) × (j < m.columns)

-- the pair is allowed
-- Source: own
abbrev pub IsAllowed : Costs → ℕ → ℕ → Type 0
IsAllowed m i j = IsSome (m.cost i j)

-- the cost of the pair, if it is allowed, lies within the limit of costs
-- Source: own
abbrev pub HasSmallCost : Costs → ℕ → ℕ → Type 0
HasSmallCost m i j = IfSome (m.cost i j) (IsUpTo limits.cost)

-- the costs of all allowed pairs lie within the limit of costs
-- Source: own
abbrev pub AreSmallCosts : Costs → Type 0
AreSmallCosts m = (i j : ℕ) → IsPlace m i j → HasSmallCost m i j
