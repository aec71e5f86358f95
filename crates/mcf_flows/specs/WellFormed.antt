-- What every instance keeps.
-- Source: own
use Rattle.std.specs.Prelude.{ℕ, ◌*◌, ◌≤◌, max, map, length, sum, ℤ, pos, neg_ℤ, ◌≤ℤ◌, unsigned_abs, Option, Some, None}
use Rattle.std.specs.List.{All}
use Rattle.mcf_flows.specs.declared.arc.Arc.{Arc}
use Rattle.mcf_flows.specs.Assignment.{OnAssignment, IsAssignment}
use Rattle.mcf_flows.specs.Limits.{Limits, node_limit, arc_limit}
use Rattle.mcf_flows.specs.Network.{Network, IsNode, node_count}

-- z is at most so far from 0
abbrev pub IsUpTo : ℕ → ℤ → Type 0
IsUpTo bound z = (neg_ℤ (pos bound) ≤ℤ z) × (z ≤ℤ pos bound)

-- both ends are nodes
-- Source: DIMACS
pub record HasEnds (nodes : ℕ) (a : Arc) : Type 0 where
  pub src_is_node : IsNode nodes a.src
  pub dst_is_node : IsNode nodes a.dst

-- the bounds of an arc are in order and, like its cost, within the limits
pub record IsArcWithinLimits (allowed : Limits) (a : Arc) : Type 0 where
  pub ordered : a.low ≤ℤ a.cap
  pub low_small : IsUpTo allowed.bound a.low
  pub cap_small : IsUpTo allowed.bound a.cap
  pub cost_small : IsUpTo allowed.cost a.cost

-- the most that an arc can cost or earn
abbrev pub weight : Arc → ℕ
weight a = unsigned_abs a.cost * max (unsigned_abs a.low) (unsigned_abs a.cap)

-- the total is within the limit, if there is one
abbrev pub IsWithinTotal : Option ℕ → ℕ → Type 0
IsWithinTotal None total = Unit {0}
IsWithinTotal (Some limit) total = total ≤ limit

-- arcs, supplies and the total of the arcs within the limits
pub record IsWithinLimits (allowed : Limits) (g : Network) : Type 0 where
  pub arcs : All (IsArcWithinLimits allowed) g.arcs
  pub supplies : All (IsUpTo allowed.supply) g.supplies
  pub total : IsWithinTotal allowed.total (sum (map weight g.arcs))

-- what an instance keeps under the limits of its reader
pub record IsWellFormed (allowed : Limits) (g : Network) : Type 0 where
  pub nodes : node_count g ≤ node_limit
  pub arcs : length g.arcs ≤ arc_limit
  pub ends : All (HasEnds (node_count g)) g.arcs
  pub within : IsWithinLimits allowed g
  pub assignment : OnAssignment g.problem (IsAssignment g)
