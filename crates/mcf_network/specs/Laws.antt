-- Laws of states, and of a network and its net.
-- Source: AMO 2.4
use Rattle.std.specs.Prelude.{◌≡◌, ℕ, Bool, List, length, ℤ, ◌+ℤ◌, ◌≤ℤ◌, ◌↔◌}
use Rattle.std.specs.List.{All}
use Rattle.mcf_flows.specs.declared.problem.Side.{Side}
use Rattle.mcf_flows.specs.declared.problem.Side.TheVariants.{Send}
use Rattle.mcf_flows.specs.Blocking.{Blocks}
use Rattle.mcf_flows.specs.Flow.{AreGreatestPrices, IsFeasible, IsLeast, cost}
use Rattle.mcf_flows.specs.Network.{Network, node_count}
use Rattle.mcf_flows.specs.WellFormed.{HasEnds}
use Rattle.mcf_network.specs.Nets.{IsNet}
use Rattle.mcf_network.specs.Removal.{net_of}
use Rattle.mcf_network.specs.Restoring.{fixed_cost, restored}
use Rattle.mcf_network.specs.States.{Pseudoflow, IsPseudoflow, HasNoSurplus}
use Rattle.mcf_network.specs.Stuck.{IsStuck}
use Rattle.mcf_network.specs.TreeSolutions.{IsTreeSolution}

-- amounts are a feasible flow of a net exactly if they are a state without surplus
abbrev pub FeasibleFlowsAreStates : Type 0
FeasibleFlowsAreStates =
    (g : Network) (flow : List ℤ) → IsNet g → IsFeasible g flow ↔ (IsPseudoflow (record { net = g; amounts = flow })
    × HasNoSurplus (record { net = g; amounts = flow }))

-- a set that no surplus can leave must send more than it can
-- Source: AMO 6.5
abbrev pub StuckSetsBlock : Type 0
StuckSetsBlock = (s : Pseudoflow) (set : ℕ → Bool) → IsPseudoflow s → IsStuck s set → Blocks s.net set Send

-- for each feasible flow some state of the net without surplus costs no more than the flow, but for
-- the cost that is the same for all
abbrev pub NetFlowsCostNoMore : Type 0
NetFlowsCostNoMore =
    (g : Network) (flow : List ℤ) → IsFeasible g flow → (amounts : List ℤ) × IsFeasible (net_of g) amounts
    × ((cost (net_of g).arcs amounts +ℤ fixed_cost g.arcs) ≤ℤ cost g.arcs flow)

-- a node set blocks the net exactly where it blocks the network, by the same side
-- Source: AMO 6.7
abbrev pub NetsBlockAlike : Type 0
NetsBlockAlike =
    (g : Network) (set : ℕ → Bool) (side : Side) → All (HasEnds (node_count g)) g.arcs → Blocks (net_of g) set side ↔ Blocks g set side

-- a least flow of the net stands for a least flow, where no low is above its cap
abbrev pub RestoredLeastFlowsAreLeast : Type 0
RestoredLeastFlowsAreLeast =
    (g : Network) (amounts : List ℤ) → All (λ a. a.low ≤ℤ a.cap) g.arcs → IsLeast (net_of g) amounts → IsLeast g (restored g.arcs amounts)

-- the greatest prices not above 0 of a feasible flow of the net are those of the flow for which it
-- stands
-- Source: own
abbrev pub GreatestPricesCarryOver : Type 0
GreatestPricesCarryOver =
    (g : Network) (prices amounts : List ℤ) → IsFeasible (net_of g) amounts → AreGreatestPrices (net_of g) prices amounts
    ↔ AreGreatestPrices g prices (restored g.arcs amounts)

-- a tree solution of the net stands for a tree solution of the network
-- Source: AMO 11.2
abbrev pub RestoredTreeSolutionsAreTreeSolutions : Type 0
RestoredTreeSolutionsAreTreeSolutions =
    (g : Network) (amounts : List ℤ) → length amounts ≡ length g.arcs → IsTreeSolution (net_of g) amounts → IsTreeSolution g (restored g.arcs amounts)
