-- The laws between planners' problems and their models.
-- Source: own
use Rattle.std.specs.Prelude.{◌≡◌, ℕ, Bool, true, false, ◌&&◌, ◌||◌, List, length, ℤ, ◌≤ℤ◌}
use Rattle.std.specs.List.{All}
use Rattle.std.specs.Option.{is_some}
use Rattle.mcf_flows.specs.Network.{IsNode, when}
use Rattle.mcf_model.specs.Model.{IsLeastPlan as IsLeastModelPlan, IsPlan as IsModelPlan, IsSound as IsSoundModel, IsSoundRoute, Route, plan_cost}
use Rattle.mcf_places.specs.declared.places.Place.{Place}
use Rattle.mcf_places.specs.Models.{exit_of, model_of, place_at, plan_of, routes_of}
use Rattle.mcf_places.specs.Planners.{IsLeastPlan, IsPlan, Plan, Planner, all_wanted, cost, misses_least, total_missing}

-- what passes through the place with a number has bounds
abbrev pub has_bounds : List Place → ℕ → Bool
has_bounds places v = is_some (place_at places v).through

-- where what passes through a place has bounds, its routes are used one way: a route both ways may
-- bring something to its tail, too, which `passes` doesn't count
abbrev pub ReturnsFreely : List Place → Route → Type 0
ReturnsFreely places r = (r.both && (has_bounds places r.tail || has_bounds places r.head)) ≡ false

-- the ends of each route are places, and its steps are as they must be
abbrev pub AreSoundRoutes : Planner → Type 0
AreSoundRoutes P = All (IsSoundRoute (length P.places)) P.routes

-- the routes are sound, and no route is used both ways where an end has bounds
pub record IsSound (P : Planner) : Type 0 where
  pub routes : AreSoundRoutes P
  pub return_freely : All (ReturnsFreely P.places) P.routes

-- a plan of the model that stands for a plan
pub record IsModelPlanOf (most : ℤ) (P : Planner) (x : Plan) (plan : List ℤ) : Type 0 where
  pub is_plan : IsModelPlan (model_of most P) plan
  pub same_cost : plan_cost (model_of most P) plan ≡ cost P x
  pub back_again : plan_of P plan ≡ x

-- a plan that stands for a plan of the model
pub record IsPlanOf (most : ℤ) (P : Planner) (plan : List ℤ) (x : Plan) : Type 0 where
  pub is_plan : IsPlan P x
  pub misses_no_more : total_missing P x ≤ℤ most
  pub same_cost : cost P x ≡ plan_cost (model_of most P) plan
  pub back_again : routes_of P x ≡ plan

-- each plan in which no more than `most` is missing is a plan of the model, at the same cost, and
-- each plan of the model is such a plan
pub record PlannersAreModels : Type 0 where
  pub plans_are_model_plans : (most : ℤ) (P : Planner) (x : Plan) → IsSound P → IsPlan P x → total_missing P x ≤ℤ most → IsModelPlanOf most P x (routes_of P x)
  pub model_plans_are_plans : (most : ℤ) (P : Planner) (plan : List ℤ) → IsSound P → IsModelPlan (model_of most P) plan → IsPlanOf most P plan (plan_of P plan)

-- `most` leaves room for what has to be missing: if as little as possible is to be missing, then no
-- plan misses less; otherwise no plan misses more
abbrev pub LeavesEnough : ℤ → Planner → Bool → Type 0
LeavesEnough most P true = (x : Plan) → IsPlan P x → most ≤ℤ total_missing P x
LeavesEnough most P false = (x : Plan) → IsPlan P x → total_missing P x ≤ℤ most

-- a least plan of a model that leaves room for what has to be missing is a least plan of the
-- problem
abbrev pub LeastModelPlansAreLeast : Type 0
LeastModelPlansAreLeast =
    (most : ℤ) (P : Planner) (plan : List ℤ) → IsSound P → LeavesEnough most P (misses_least P)
    → IsLeastModelPlan (model_of most P) plan → IsLeastPlan P (plan_of P plan)

-- what is wanted in total, or nothing if no demand may be missing, bounds what any plan misses
abbrev pub PlansMissNoMore : Type 0
PlansMissNoMore = (P : Planner) (x : Plan) → IsPlan P x → total_missing P x ≤ℤ when P.policy.short (all_wanted P.places)

-- the model of a sound problem is sound, and the exit of each place is a place of it
pub record SoundPlannersHaveSoundModels : Type 0 where
  pub sound_model : (most : ℤ) (P : Planner) → IsSound P → IsSoundModel (model_of most P)
  pub exit_is_place : (most : ℤ) (P : Planner) (v : ℕ) → IsNode (length P.places) v
      → IsNode (length (model_of most P).supplies) (exit_of P.places v)
