-- What every net keeps: a network whose lows are 0, and whose caps are called widths.
-- Source: own
use Rattle.std.specs.Prelude.{◌≡◌, ℕ, ◌*◌, ◌^◌, ◌≤◌, List, [], ◌∷◌, map, max, length, sum, pos, ◌≤ℤ◌, unsigned_abs}
use Rattle.std.specs.List.{All}
use Rattle.mcf_flows.specs.declared.arc.Arc.{Arc}
use Rattle.mcf_flows.specs.Assignment.{OnAssignment, IsAssignment}
use Rattle.mcf_flows.specs.Limits.{limits, node_limit, arc_limit}
use Rattle.mcf_flows.specs.Network.{Network, node_count}
use Rattle.mcf_flows.specs.WellFormed.{IsUpTo, HasEnds, weight}

-- the greatest width
abbrev pub width_limit : ℕ
width_limit = 2 * 10 ^ 18

-- the greatest size of a supply
abbrev pub supply_limit : ℕ
supply_limit = 10 ^ 26

-- the greatest size of what a node has left to send: its supply, and what its arcs carry
abbrev pub surplus_limit : ℕ
surplus_limit = 2 * 10 ^ 26

-- the greatest total over the arcs of the size of the cost times the width
abbrev pub net_total_limit : ℕ
net_total_limit = 2 * 10 ^ 36

-- an arc with low 0, a width from 0 to its limit, 0 of a loop, and a cost within the wide limit
pub record IsNetArc (a : Arc) : Type 0 where
  pub no_low : a.low ≡ pos 0
  pub width_low : pos 0 ≤ℤ a.cap
  pub width_high : a.cap ≤ℤ pos width_limit
  pub cost_small : IsUpTo limits.cost a.cost
  pub no_loop_width : a.src ≡ a.dst → a.cap ≡ pos 0

-- the greatest size of the cost of an arc, 0 without arcs
abbrev pub greatest_cost : List Arc → ℕ
greatest_cost [] = 0
greatest_cost (a ∷ arcs) = max (unsigned_abs a.cost) (greatest_cost arcs)

-- what a net keeps: counts, ends, arcs, supplies and the total within limits; an assignment if it
-- is one
pub record IsNet (g : Network) : Type 0 where
  pub nodes : node_count g ≤ node_limit
  pub arcs : length g.arcs ≤ arc_limit
  pub ends : All (HasEnds (node_count g)) g.arcs
  pub each_arc : All IsNetArc g.arcs
  pub supplies : All (IsUpTo supply_limit) g.supplies
  pub total : sum (map weight g.arcs) ≤ net_total_limit
  pub assignment : OnAssignment g.problem (IsAssignment g)
