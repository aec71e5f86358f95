-- The answers for a planner's problem.
-- Source: own
use Rattle.std.specs.Prelude.{◌≡◌, IsTrue, ℕ, Bool, true, false, ℤ, pos, ◌*ℤ◌, ◌≤ℤ◌, ◌⊎◌, Some, length}
use Rattle.mcf_flows.specs.Blocking.{in_list, in_table}
use Rattle.mcf_flows.specs.Limits.{limits}
use Rattle.mcf_flows.specs.Network.{IsNode, when}
use Rattle.mcf_instance.specs.declared.arrays.ArrayFault.{ArrayFault}
use Rattle.mcf_instance.specs.Arrays.{array_fault}
use Rattle.mcf_model.specs.declared.planning.Bottleneck.{Bottleneck}
use Rattle.mcf_model.specs.Arcs.{network_of, reach_of}
use Rattle.mcf_model.specs.Model.{IsPlan as IsModelPlan}
use Rattle.mcf_model.specs.Prices.{ShowsPlan}
use Rattle.mcf_places.specs.declared.answering.LeastPlannerPlan.{LeastPlannerPlan}
use Rattle.mcf_places.specs.declared.answering.Missed.{Missed}
use Rattle.mcf_places.specs.declared.answering.Missed.TheVariants.{Missing, Unplanned, TooGreat}
use Rattle.mcf_places.specs.declared.answering.PlannerAnswer.{PlannerAnswer}
use Rattle.mcf_places.specs.declared.answering.PlannerAnswer.TheVariants.{Least, NoPlan, Beyond}
use Rattle.mcf_places.specs.declared.told.PlannerBottleneck.{PlannerBottleneck}
use Rattle.mcf_places.specs.FinerPlanners.{finer, finer_plan}
use Rattle.mcf_places.specs.LimitedPlanners.{limited}
use Rattle.mcf_places.specs.Models.{exit_of, hub_of, model_of, plan_of}
use Rattle.mcf_places.specs.PlannerBottlenecks.{IsPlannerBottleneck, PlaceSet}
use Rattle.mcf_places.specs.PlannerLaws.{LeavesEnough}
use Rattle.mcf_places.specs.Planners.{IsLeastPlan, IsPlan, Plan, Planner, all_wanted, cost, misses_least, total_missing}
use Rattle.mcf_places.specs.Planning.{plan_in}
use Rattle.mcf_places.specs.Shortage.{shortage_of}
use Rattle.mcf_model.specs.Complements.{side_told, turned_if}

-- a least plan, its cost, and what is missing in total; no plan in finer units is better either
pub record IsBestPlannerPlan (P : Planner) (p : LeastPlannerPlan) : Type 0 where
  pub least : IsLeastPlan P (plan_in p.plan)
  pub cost_is : p.cost ≡ cost P (plan_in p.plan)
  pub missing_is : p.missing ≡ total_missing P (plan_in p.plan)
  pub least_in_finer_units : (k : ℤ) → pos 1 ≤ℤ k → IsLeastPlan (finer k P) (finer_plan k (plan_in p.plan))

-- the set of places of a bottleneck
abbrev pub set_in : PlannerBottleneck → PlaceSet
set_in b = record { entries = in_table b.entries.items; exits = in_table b.exits.items }

-- places that must send, or take, more than they can, and so no plan, in finer units either
pub record HasNoPlannerPlan (P : Planner) (b : PlannerBottleneck) : Type 0 where
  pub entry_by_place : length b.entries.items ≡ length P.places
  pub exit_by_place : length b.exits.items ≡ length P.places
  pub is_bottleneck : IsPlannerBottleneck P (set_in b) b.side
  pub none : (x : Plan) → ¬ IsPlan P x
  pub none_in_finer_units : (k : ℤ) (x : Plan) → pos 1 ≤ℤ k → ¬ IsPlan (finer k P) x

-- the least that is missing in a plan; none in finer units misses less either
pub record IsLeastMissing (most : ℤ) (P : Planner) : Type 0 where
  pub plan : Plan
  pub is_plan : IsPlan P plan
  pub misses : total_missing P plan ≡ most
  pub least : (other : Plan) → IsPlan P other → most ≤ℤ total_missing P other
  pub least_in_finer_units : (k : ℤ) (other : Plan) → pos 1 ≤ℤ k → IsPlan (finer k P) other → (k *ℤ most) ≤ℤ total_missing (finer k P) other

-- so much may be missing in the model of the problem that is solved last: the least that is missing
-- in a plan, if as little as possible is to be missing, and otherwise what places want
abbrev pub IsAllowed : Bool → ℤ → Planner → Type 0
IsAllowed true most P = IsLeastMissing most P
IsAllowed false most P = most ≡ when P.policy.short (all_wanted P.places)

-- the model that is solved last, a plan of it that the plan is read from, and prices that show it
pub record IsShownIn (P : Planner) (p : LeastPlannerPlan) : Type 0 where
  pub most : ℤ
  pub allowed : IsAllowed (misses_least P) most P
  pub model_is : p.shown.model ≡ model_of most P
  pub plan_is : plan_in p.plan ≡ plan_of P p.shown.carries.items
  pub is_plan : IsModelPlan p.shown.model p.shown.carries.items
  pub shown : ShowsPlan p.shown.model.routes p.shown.prices.items p.shown.carries.items

-- the first fault of the network of the problem's model
pub record IsBeyond (P : Planner) (fault : ArrayFault) : Type 0 where
  pub most : ℤ
  pub allowed : IsAllowed (misses_least P) most P
  pub beyond : array_fault limits (network_of (reach_of (model_of most P)) (model_of most P)) ≡ Some fault

-- such a fault of a stage: of the only one, or of the first or the last of two, of which the first
-- finds how little can be missing
abbrev pub IsBeyondInStage : Planner → ArrayFault → Type 0
IsBeyondInStage P fault = IsBeyond P fault ⊎ (IsTrue (misses_least P) × IsBeyond (shortage_of P) fault)

-- a least plan, with the model of the problem in which bounds have the limits that they need; or
-- places that are a bottleneck; or the first number beyond the limits of that problem
abbrev pub IsPlannerAnswer : Planner → PlannerAnswer → Type 0
IsPlannerAnswer P (Least p) = IsBestPlannerPlan P p × IsShownIn (limited P) p
IsPlannerAnswer P (NoPlan b) = HasNoPlannerPlan P b
IsPlannerAnswer P (Beyond fault) = IsBeyondInStage (limited P) fault

-- ---- the two stages

-- the answer for a problem in which bounds have the limits that they need
abbrev pub IsStagedAnswer : Planner → PlannerAnswer → Type 0
IsStagedAnswer P (Least p) = IsBestPlannerPlan P p × IsShownIn P p
IsStagedAnswer P (NoPlan b) = HasNoPlannerPlan P b
IsStagedAnswer P (Beyond fault) = IsBeyondInStage P fault

-- a model in which no more than `most` is missing stands for the problem: its least plans are least
-- plans of the problem, in finer units, too; and it has all plans, or it has the one that misses
-- the least
pub record StandsFor (most : ℤ) (P : Planner) : Type 0 where
  pub enough : LeavesEnough most P (misses_least P)
  pub enough_in_finer_units : (k : ℤ) → pos 1 ≤ℤ k → LeavesEnough (k *ℤ most) (finer k P) (misses_least P)
  pub all_or_least : (most ≡ when P.policy.short (all_wanted P.places)) ⊎ IsLeastMissing most P

-- what the first stage finds
abbrev pub IsMissed : Planner → Missed → Type 0
IsMissed P (Missing most) = IsLeastMissing most P
IsMissed P (Unplanned b) = HasNoPlannerPlan P b
IsMissed P (TooGreat fault) = IsBeyond (shortage_of P) fault

-- a bottleneck of a model of the problem, as one of the problem: where the hub is one of the
-- places, all others are meant, and the other side
pub record IsToldBottleneck (P : Planner) (found : Bottleneck) (made : PlannerBottleneck) : Type 0 where
  pub entry_by_place : length made.entries.items ≡ length P.places
  pub exit_by_place : length made.exits.items ≡ length P.places
  pub entries : (v : ℕ) → IsNode (length P.places) v
      → in_table made.entries.items v ≡ turned_if (in_list found.places.items (hub_of P.places)) (in_list found.places.items v)
  pub exits : (v : ℕ) → IsNode (length P.places) v
      → in_table made.exits.items v ≡ turned_if (in_list found.places.items (hub_of P.places)) (in_list found.places.items (exit_of P.places v))
  pub side : made.side ≡ side_told (in_list found.places.items (hub_of P.places)) found.side
