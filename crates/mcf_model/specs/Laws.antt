-- The laws between a model and its network.
-- Source: own
use Rattle.std.specs.Prelude.{◌≡◌, ℕ, Bool, List, map, ℤ, pos, ◌*ℤ◌, ◌≤ℤ◌, ◌⊎◌}
use Rattle.std.specs.List.{All, AllZip}
use Rattle.mcf_flows.specs.declared.problem.Side.{Side}
use Rattle.mcf_flows.specs.Blocking.{Blocks}
use Rattle.mcf_flows.specs.Flow.{IsFeasible, Shows, cost}
use Rattle.mcf_model.specs.Arcs.{arcs_of, flow_of, last_cap, network_of, plan_of, reach_of}
use Rattle.mcf_model.specs.Scaling.{scaled}
use Rattle.mcf_model.specs.Bottlenecks.{IsBottleneck}
use Rattle.mcf_model.specs.Model.{HasNoEarnings, IsLeastPlan, IsLimited, IsPlan, IsSound, Model, Route, charged, plan_cost, room}

-- the amount that a route carries fits its steps, if a last step without a limit takes the reach
abbrev pub IsWithin : ℤ → Route → ℤ → Type 0
IsWithin reach r x = charged r.both x ≤ℤ room r.steps (last_cap reach r.last_most)

-- a feasible flow that costs as much as the plan
pub record IsFlowOf (reach : ℤ) (m : Model) (plan flow : List ℤ) : Type 0 where
  pub feasible : IsFeasible (network_of reach m) flow
  pub same_cost : cost (arcs_of reach m.routes) flow ≡ plan_cost m plan

-- the flow of a plan that is within the reach is feasible, at the same cost
abbrev pub PlansAreFlows : Type 0
PlansAreFlows =
    (m : Model) (reach : ℤ) (plan : List ℤ) → IsSound m → IsPlan m plan → pos 0 ≤ℤ reach → AllZip (IsWithin reach) m.routes plan
    → IsFlowOf reach m plan (flow_of m.routes plan)

-- a plan that costs no more than a flow
pub record IsPlanOf (reach : ℤ) (m : Model) (flow plan : List ℤ) : Type 0 where
  pub is_plan : IsPlan m plan
  pub costs_no_more : plan_cost m plan ≤ℤ cost (arcs_of reach m.routes) flow

-- a feasible flow gives a plan of no greater cost, whatever the reach
abbrev pub FlowsArePlans : Type 0
FlowsArePlans =
    (m : Model) (reach : ℤ) (flow : List ℤ) → IsSound m → pos 0 ≤ℤ reach → IsFeasible (network_of reach m) flow
    → IsPlanOf reach m flow (plan_of m.routes flow)

-- all routes have limits, or no cost is below 0
abbrev pub IsBounded : Model → Type 0
IsBounded m = All (λ r. IsLimited r.last_most) m.routes ⊎ HasNoEarnings m

-- no step before the last has a capacity below 0
abbrev pub StepsTake : Route → Type 0
StepsTake r = All (λ s. pos 0 ≤ℤ s.most) r.steps

-- the model has no fault
pub record IsProper (m : Model) : Type 0 where
  pub sound : IsSound m
  pub bounded : IsBounded m
  pub steps_take : All StepsTake m.routes

-- the plan of a flow that some prices show to be least is least, even if routes have no limit
abbrev pub ShownFlowsGiveLeastPlans : Type 0
ShownFlowsGiveLeastPlans =
    (m : Model) (prices flow : List ℤ) → IsSound m → IsBounded m → IsFeasible (network_of (reach_of m) m) flow
    → Shows (arcs_of (reach_of m) m.routes) prices flow → IsLeastPlan m (plan_of m.routes flow)

-- if a set blocks the network, there is no plan, even if routes have no limit
abbrev pub BlockedModelsHaveNoPlan : Type 0
BlockedModelsHaveNoPlan =
    (m : Model) (set : ℕ → Bool) (side : Side) (plan : List ℤ) → IsSound m → Blocks (network_of (reach_of m) m) set side → ¬ IsPlan m plan

-- a set that blocks the network is a bottleneck of the model
abbrev pub BlockingSetsAreBottlenecks : Type 0
BlockingSetsAreBottlenecks =
    (m : Model) (set : ℕ → Bool) (side : Side) → All (λ a. a.low ≤ℤ a.cap) (arcs_of (reach_of m) m.routes)
    → Blocks (network_of (reach_of m) m) set side → IsBottleneck m set side

-- the plan of a flow that some prices show to be least costs as much as the flow
abbrev pub ShownFlowsCostTheSame : Type 0
ShownFlowsCostTheSame =
    (m : Model) (prices flow : List ℤ) → IsSound m → IsBounded m → IsFeasible (network_of (reach_of m) m) flow
    → Shows (arcs_of (reach_of m) m.routes) prices flow → plan_cost m (plan_of m.routes flow) ≡ cost (arcs_of (reach_of m) m.routes) flow

-- no plan in units k times as fine, for any k, costs less than the plan of a flow that some prices
-- show to be least
abbrev pub FinerPlansUndercutNone : Type 0
FinerPlansUndercutNone =
    (k : ℤ) (m : Model) (prices flow : List ℤ) → pos 1 ≤ℤ k → IsSound m → IsBounded m → IsFeasible (network_of (reach_of m) m) flow
    → Shows (arcs_of (reach_of m) m.routes) prices flow → IsLeastPlan (scaled k m) (map (λ x. k *ℤ x) (plan_of m.routes flow))

-- if some places are a bottleneck, there is no plan
abbrev pub BottlenecksHaveNoPlan : Type 0
BottlenecksHaveNoPlan = (m : Model) (set : ℕ → Bool) (side : Side) (plan : List ℤ) → IsSound m → IsBottleneck m set side → ¬ IsPlan m plan
