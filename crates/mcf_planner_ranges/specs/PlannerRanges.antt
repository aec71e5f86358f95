-- By how much the cost of a unit on a route of a planner's problem may change while a plan stays
-- least.
-- Source: AMO 9.11, for planners' problems
use Rattle.std.specs.Prelude.{ℕ, ◌-◌, List, length, ℤ, pos, slice_index_or, slice_set, ◌↔◌}
use Rattle.mcf_flows.specs.Network.{IsNode}
use Rattle.mcf_model.specs.Model.{IsPlan as IsModelPlan}
use Rattle.mcf_model.specs.Tables.{no_route}
use Rattle.mcf_places.specs.Answers.{IsAllowed}
use Rattle.mcf_places.specs.LimitedPlanners.{limited}
use Rattle.mcf_places.specs.Models.{model_of, plan_of}
use Rattle.mcf_places.specs.PlannerLaws.{IsSound}
use Rattle.mcf_places.specs.Planners.{IsLeastPlan, Plan, Planner, misses_least}
use Rattle.mcf_plan_ranges.specs.Changes.{dearer}
use Rattle.mcf_plan_ranges.specs.PlanRanges.{IsPlanRange}
use Rattle.mcf_ranges.specs.declared.range.CostRange.{CostRange}
use Rattle.mcf_ranges.specs.Ranges.{IsInRange}

-- the problem in which each unit on route k costs d more
abbrev pub with_dearer : Planner → ℕ → ℤ → Planner
with_dearer P k d = record P { routes = slice_set P.routes (k - 1) (dearer d (slice_index_or P.routes (k - 1) no_route)) }

-- exactly the changes in the range, from 0 down and up, keep the problem sound and the plan least
abbrev pub IsPlannerRange : Planner → Plan → ℕ → CostRange → Type 0
IsPlannerRange P x k range = (d : ℤ) → IsInRange (pos 0) range d ↔ (IsSound (with_dearer P k d) × IsLeastPlan (with_dearer P k d) x)

-- ---- the laws

-- a range of a route of the model, in which no more may be missing than has to be allowed, is one
-- of the problem
abbrev pub ModelRangesAreThePlanners : Type 0
ModelRangesAreThePlanners =
    (most : ℤ) (P : Planner) (carries : List ℤ) (k : ℕ) (range : CostRange) → IsSound P → IsAllowed (misses_least P) most P
    → IsModelPlan (model_of most P) carries → IsNode (length P.routes) k → IsPlanRange (model_of most P) carries k range
    → IsPlannerRange P (plan_of P carries) k range

-- limits that change no plan change no range
abbrev pub LimitsChangeNoRange : Type 0
LimitsChangeNoRange =
    (P : Planner) (x : Plan) (k : ℕ) (range : CostRange) → IsSound P → IsNode (length P.routes) k → IsPlannerRange (limited P) x k range → IsPlannerRange P x k range
