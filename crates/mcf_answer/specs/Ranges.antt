-- The ranges of the numbers of answers.
-- Source: own
use Rattle.std.specs.Prelude.{ℕ, ◌≤◌, ℤ}
use Rattle.mcf_flows.specs.declared.limits.TheConstants.{AMOUNT_LIMIT}
use Rattle.mcf_flows.specs.Limits.{arc_limit, node_limit}
use Rattle.mcf_flows.specs.Network.{IsNode}
use Rattle.mcf_flows.specs.WellFormed.{IsUpTo}

-- the greatest absolute value of a cost, a flow and a price
abbrev pub amount_limit : ℕ
amount_limit = AMOUNT_LIMIT

-- a cost, a flow or a price
abbrev pub IsAmount : ℤ → Type 0
IsAmount z = IsUpTo amount_limit z

-- the number of a node
abbrev pub IsNodeInRange : ℕ → Type 0
IsNodeInRange v = IsNode node_limit v

-- the number of an arc
abbrev pub IsArcInRange : ℕ → Type 0
IsArcInRange k = (1 ≤ k) × (k ≤ arc_limit)
