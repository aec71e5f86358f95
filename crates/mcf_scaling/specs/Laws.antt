-- Laws of cost scaling.
-- Source: AMO 10.3; the measure own
use Rattle.std.specs.Prelude.{◌≡◌, ℕ, ◌+◌, ◌*◌, ◌<◌, ◌≤◌, List, ℤ, pos, ◌-ℤ◌, ◌≤ℤ◌, ◌<ℤ◌}
use Rattle.mcf_flows.specs.Network.{IsNode, at_node, node_count}
use Rattle.mcf_network.specs.declared.rid.Rid.{Rid}
use Rattle.mcf_network.specs.States.{Pseudoflow, IsPseudoflow, HasNoSurplus, surplus_at}
use Rattle.mcf_engine.specs.NegativeCycles.{IsNegativeCycle}
use Rattle.mcf_scaling.specs.Optimality.{IsOptimalWithin}
use Rattle.mcf_scaling.specs.Phases.{IsPush, IsRelabel, Run, relabels}
use Rattle.mcf_scaling.specs.Refinements.{Refinement, IsNodeOf, IsRefinement}

-- from a state without surplus that is 2e-optimal no price of an active node has risen by more than
-- 3ne, where the state at hand is e-optimal and no node that takes has been given another price
abbrev pub PricesRiseLittle : Type 0
PricesRiseLittle =
    (s : Pseudoflow) (first : List ℤ) (before prices : List ℤ) (e : ℕ) → IsPseudoflow s → IsPseudoflow (record s { amounts = first }) → HasNoSurplus
    (record s { amounts = first }) → IsOptimalWithin (2 * e) (record s { amounts = first }) before → IsOptimalWithin e s prices →
    ((u : ℕ) → IsNode (node_count s.net) u → surplus_at s u <ℤ pos 0 → at_node prices u ≡ at_node before u) → (v : ℕ) → IsNode (node_count s.net)
    v → pos 0 <ℤ surplus_at s v → (at_node prices v -ℤ at_node before v) ≤ℤ pos (3 * e * node_count s.net)

-- a state that is 1-optimal has no negative cycle
abbrev pub NearlyLeastHaveNoCycle : Type 0
NearlyLeastHaveNoCycle =
    (s : Pseudoflow) (prices : List ℤ) (walk : List Rid) → IsPseudoflow s → IsOptimalWithin 1 s prices → ¬ IsNegativeCycle s walk

-- whatever was reached by steps from a refinement is one, and in the phase at hand no node was
-- relabelled more than 3n times
abbrev pub RunsKeepBounds : Type 0
RunsKeepBounds =
    (a b : Refinement) (k : ℕ) (run : Run a b k) → IsRefinement a → IsRefinement b ×
    ((v : ℕ) → IsNodeOf b v → relabels run v ≤ 3 * node_count b.flow.net) × (a.scale ≡ b.scale + k)

-- a measure that each push and each relabel lowers: so a phase ends, in whichever order its steps
-- are taken
abbrev pub PhasesEnd : Type 0
PhasesEnd =
    (height : Refinement → ℕ) × ((a b : Refinement) (r : Rid) → IsRefinement a → IsPush a b r → height b < height a) ×
    ((a b : Refinement) (v : ℕ) (rise : ℤ) → IsRefinement a → IsRelabel a b v rise → height b < height a)
