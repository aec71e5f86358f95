-- A least plan is found in a model in which bounds have the limits that they need. The prices show
-- it in the model without these limits, too, and all that is told of it is told by that model.
-- Source: own
use Rattle.std.specs.Prelude.{◌≡◌, ℕ, List, length, ℤ, Some, ◌↔◌}
use Rattle.mcf_figures.specs.FigureLaws.{IsPriced}
use Rattle.mcf_figures.specs.Figures.{AreJoined, IsExact}
use Rattle.mcf_figures.specs.Groups.{AreGroups}
use Rattle.mcf_flows.specs.Network.{IsNode}
use Rattle.mcf_model.specs.Model.{Model}
use Rattle.mcf_places.specs.declared.answering.LeastPlannerPlan.{LeastPlannerPlan}
use Rattle.mcf_places.specs.declared.answering.ShownModel.{ShownModel}
use Rattle.mcf_places.specs.declared.places.Bounds.{Bounds}
use Rattle.mcf_places.specs.Answers.{IsAllowed, IsShownIn}
use Rattle.mcf_places.specs.LimitedPlanners.{limited}
use Rattle.mcf_places.specs.Models.{model_of, place_at, plan_of}
use Rattle.mcf_places.specs.PlannerLaws.{IsSound}
use Rattle.mcf_places.specs.Planners.{Planner, misses_least}
use Rattle.mcf_places.specs.Planning.{plan_in}
use Rattle.mcf_plan_figures.specs.PlannerFigures.{through_number}
use Rattle.mcf_plan_figures.specs.Told.{by_own_limit, groups_in, places_told, routes_told, way_told}

-- the same plan and prices, in another model
abbrev pub in_model : Model → ShownModel → ShownModel
in_model m s = record { model = m; carries = s.carries; prices = s.prices }

-- the prices show the same plan in the model of the problem itself, and by that model the same is
-- told of routes and places, of what one more unit saves or costs, where that is exact, of groups
pub record HasOwnFigures (most : ℤ) (P : Planner) (s : ShownModel) : Type 0 where
  pub priced : IsPriced (model_of most P) s.prices.items s.carries.items
  pub routes : routes_told P s ≡ routes_told P (in_model (model_of most P) s)
  pub places : places_told P s ≡ places_told P (in_model (model_of most P) s)
  pub passes : (groups : List ℕ) (v : ℕ) (b : Bounds) → IsNode (length P.places) v → (place_at P.places v).through ≡ Some b
      → by_own_limit b.most (way_told s groups (through_number P v)) ≡ way_told (in_model (model_of most P) s) groups (through_number P v)
  pub groups : groups_in s ≡ groups_in (in_model (model_of most P) s)
  pub are_groups : (numbers : List ℕ) → AreGroups s.prices.items s.model s.carries.items numbers ↔ AreGroups s.prices.items (model_of most P) s.carries.items numbers
  pub exact : (k : ℕ) → IsExact s.prices.items s.model s.carries.items k ↔ IsExact s.prices.items (model_of most P) s.carries.items k
  pub joined : (u w : ℕ) → AreJoined s.prices.items s.model s.carries.items u w ↔ AreJoined s.prices.items (model_of most P) s.carries.items u w

-- the plan is read from a plan of the model of the problem itself, in which as much may be missing
-- as is allowed, and it has the figures of that model
pub record IsShownByItself (P : Planner) (p : LeastPlannerPlan) : Type 0 where
  pub most : ℤ
  pub allowed : IsAllowed (misses_least P) most P
  pub plan_is : plan_in p.plan ≡ plan_of P p.shown.carries.items
  pub figures : HasOwnFigures most P p.shown

-- limits change no figure of a least plan
abbrev pub LimitsChangeNoFigure : Type 0
LimitsChangeNoFigure = (P : Planner) (p : LeastPlannerPlan) → IsSound P → IsShownIn (limited P) p → IsShownByItself P p
