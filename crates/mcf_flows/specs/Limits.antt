-- The limits of an instance.
-- Source: own
use Rattle.std.specs.Prelude.{ℕ, ◌^◌, Option, Some, None}
use Rattle.mcf_flows.specs.declared.limits.TheConstants.{ARC_LIMIT, BOUND_LIMIT, COST_LIMIT, LINE_LIMIT, NODE_LIMIT, SUPPLY_LIMIT, TOTAL_LIMIT}

-- the greatest absolute value of the supply of a node, a bound of an arc and the cost of an arc,
-- and how great the total of the arcs may be, where that is looked at
pub record Limits : Type 0 where
  pub supply : ℕ
  pub bound : ℕ
  pub cost : ℕ
  pub total : Option ℕ

-- the greatest total, over the arcs, each the absolute value of its cost times the greater absolute
-- value of its bounds
abbrev pub total_limit : ℕ
total_limit = TOTAL_LIMIT

-- the greatest absolute value of numbers, and how great their total may be
abbrev pub limits : Limits
limits = record { supply = SUPPLY_LIMIT; bound = BOUND_LIMIT; cost = COST_LIMIT; total = Some total_limit }

-- narrower limits, under which no total is looked at: what is an instance under them is one under
-- the limits
abbrev pub former_limits : Limits
former_limits = record { supply = 10 ^ 15; bound = 10 ^ 15; cost = 10 ^ 12; total = None }

-- the greatest number of nodes
abbrev pub node_limit : ℕ
node_limit = NODE_LIMIT

-- the greatest number of arcs
abbrev pub arc_limit : ℕ
arc_limit = ARC_LIMIT

-- the greatest number of a line that a refusal may name
abbrev pub line_limit : ℕ
line_limit = LINE_LIMIT
