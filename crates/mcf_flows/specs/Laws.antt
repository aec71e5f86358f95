-- The two laws on which a certificate rests.
-- Source: AMO 9.3, 9.4
use Rattle.std.specs.Prelude.{ℕ, Bool, List, ℤ}
use Rattle.std.specs.List.{All}
use Rattle.mcf_flows.specs.declared.problem.Side.{Side}
use Rattle.mcf_flows.specs.Blocking.{Blocks}
use Rattle.mcf_flows.specs.Flow.{IsFeasible, IsLeast, Shows}
use Rattle.mcf_flows.specs.Network.{Network, node_count}
use Rattle.mcf_flows.specs.WellFormed.{HasEnds}

-- a feasible flow that some prices show is least (weak duality)
abbrev pub ShownFlowsAreLeast : Type 0
ShownFlowsAreLeast =
    (g : Network) (prices flow : List ℤ) → All (HasEnds (node_count g)) g.arcs → IsFeasible g flow → Shows g.arcs prices flow → IsLeast g flow

-- where a set blocks, by either side, no flow is feasible (the easy half of Hoffman's theorem)
-- Source: AMO 6.7, Hoffman
abbrev pub BlockedHasNoFlow : Type 0
BlockedHasNoFlow =
    (g : Network) (set : ℕ → Bool) (side : Side) (flow : List ℤ) → All (HasEnds (node_count g)) g.arcs → Blocks g set side → ¬ IsFeasible g flow
