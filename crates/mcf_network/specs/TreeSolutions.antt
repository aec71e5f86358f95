-- Tree solutions (the cycle free solutions of Ahuja, Magnanti and Orlin, Network Flows, section
-- 11.2): the arcs whose flow is at neither bound hold no cycle.
-- Source: AMO 11.2
use Rattle.std.specs.Prelude.{◌≡◌, ◌⊎◌, ℕ, ◌-◌, List, length, ℤ, pos, slice_index_or}
use Rattle.mcf_flows.specs.declared.arc.Arc.{Arc}
use Rattle.mcf_flows.specs.Flow.{net}
use Rattle.mcf_flows.specs.Network.{Network, IsArcNumber, IsNode, node_count}
use Rattle.mcf_network.specs.Residual.{arc_at}

-- the entry for arc k of a list that has one for each arc
abbrev pub at_arc : List ℤ → ℕ → ℤ
at_arc xs k = slice_index_or xs (k - 1) (pos 0)

-- the arc carries its low or its cap
abbrev pub IsAtBound : Arc → ℤ → Type 0
IsAtBound a f = (f ≡ a.low) ⊎ (f ≡ a.cap)

-- a circulation of the free arcs: a whole number for each arc, of either sign, 0 wherever the flow
-- is at a bound, with net 0 at each node
pub record IsFreeCirculation (g : Network) (flow z : List ℤ) : Type 0 where
  pub one_per_arc : length z ≡ length g.arcs
  pub zero_at_bounds : (k : ℕ) → IsArcNumber g k → IsAtBound (arc_at g k) (at_arc flow k) → at_arc z k ≡ pos 0
  pub balanced : (v : ℕ) → IsNode (node_count g) v → net g.arcs z v ≡ pos 0

-- each such circulation is 0 at every arc, so that the free arcs hold no cycle; that the flow is
-- feasible is not said
-- Source: AMO 11.2 (a cycle free solution)
abbrev pub IsTreeSolution : Network → List ℤ → Type 0
IsTreeSolution g flow = (z : List ℤ) → IsFreeCirculation g flow z → (k : ℕ) → IsArcNumber g k → at_arc z k ≡ pos 0
