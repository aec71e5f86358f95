-- The answers to a flow problem and to a model.
-- Source: own
use Rattle.std.specs.Prelude.{◌≡◌, suc, List, length, map, ℤ, pos, ◌*ℤ◌, ◌≤ℤ◌, Some}
use Rattle.std.specs.List.{All}
use Rattle.mcf_flows.specs.Blocking.{Blocks, in_list}
use Rattle.mcf_flows.specs.Flow.{IsFeasible, Shows, cost}
use Rattle.mcf_flows.specs.Limits.{limits}
use Rattle.mcf_flows.specs.Network.{IsNode, Network, node_count}
use Rattle.mcf_instance.specs.Arrays.{array_fault}
use Rattle.mcf_model.specs.declared.planning.Bottleneck.{Bottleneck}
use Rattle.mcf_model.specs.declared.planning.LeastPlan.{LeastPlan}
use Rattle.mcf_model.specs.declared.planning.Planned.{Planned}
use Rattle.mcf_model.specs.declared.planning.Planned.TheVariants.{Plan, NoPlan, Beyond}
use Rattle.mcf_model.specs.declared.planning.ShownFlow.{ShownFlow}
use Rattle.mcf_model.specs.declared.planning.Solved.{Solved}
use Rattle.mcf_model.specs.declared.planning.Solved.TheVariants.{Flow, Blocked}
use Rattle.mcf_model.specs.Arcs.{network_of, reach_of}
use Rattle.mcf_model.specs.Bottlenecks.{IsBottleneck}
use Rattle.mcf_model.specs.Model.{IsLeastPlan, IsPlan, Model, plan_cost}
use Rattle.mcf_model.specs.Prices.{ShowsPlan}
use Rattle.mcf_model.specs.Scaling.{scaled}

-- ---- a solver's answers

-- a feasible flow, its cost, and prices that show it
pub record IsShownFlow (g : Network) (s : ShownFlow) : Type 0 where
  pub feasible : IsFeasible g s.flow.items
  pub shown : Shows g.arcs s.prices.items s.flow.items
  pub cost_is : s.cost ≡ cost g.arcs s.flow.items

-- nodes of the network, which block by a side
pub record IsBlocked (g : Network) (b : Bottleneck) : Type 0 where
  pub are_nodes : All (IsNode (node_count g)) b.places.items
  pub blocks : Blocks g (in_list b.places.items) b.side

-- a solver's answer to a flow problem
abbrev pub IsSolved : Network → Solved → Type 0
IsSolved g (Flow s) = IsShownFlow g s
IsSolved g (Blocked b) = IsBlocked g b

-- ---- answers for a model

-- a least plan, its cost, and prices that show it; no plan in finer units costs less either
pub record IsBestPlan (m : Model) (p : LeastPlan) : Type 0 where
  pub least : IsLeastPlan m p.carries.items
  pub cost_is : p.cost ≡ plan_cost m p.carries.items
  pub shown : ShowsPlan m.routes p.prices.items p.carries.items
  pub least_in_finer_units : (k : ℤ) → pos 1 ≤ℤ k → IsLeastPlan (scaled k m) (map (λ x. k *ℤ x) p.carries.items)

-- places that must send, or take, more than they can, and so no plan
pub record HasNoPlan (m : Model) (b : Bottleneck) : Type 0 where
  pub are_places : All (IsNode (length m.supplies)) b.places.items
  pub is_bottleneck : IsBottleneck m (in_list b.places.items) b.side
  pub none : (plan : List ℤ) → ¬ IsPlan m plan

-- a least plan; or places that are a bottleneck; or the first number beyond the limits
abbrev pub IsPlanned : Model → Planned → Type 0
IsPlanned m (Plan p) = IsBestPlan m p
IsPlanned m (NoPlan b) = HasNoPlan m b
IsPlanned m (Beyond fault) = array_fault limits (network_of (reach_of m) m) ≡ Some fault

-- ---- what the code fills in

-- the first capacity beyond the limit of bounds
abbrev pub beyond_bounds : ℤ
beyond_bounds = pos (suc limits.bound)
