-- What is told of the routes and the places of a planner's least plan. `s` is the model that it was
-- found in, with its plan and with prices that show that plan.
-- Source: own
use Rattle.std.specs.Prelude.{◌≡◌, ℕ, ◌+◌, Bool, true, ◌&&◌, if◌then◌else◌, IfSome, List, [], length, map, ℤ, neg_ℤ, Option, Some, None}
use Rattle.std.specs.List.{range_with_len}
use Rattle.mcf_figures.specs.declared.rows.RowFigures.{RowFigures}
use Rattle.mcf_figures.specs.Figures.{amount_at}
use Rattle.mcf_figures.specs.Groups.{group_at, groups_by}
use Rattle.mcf_figures.specs.Rows.{row_told}
use Rattle.mcf_figures.specs.Told.{are_small}
use Rattle.mcf_flows.specs.Network.{IsNode, at_node}
use Rattle.mcf_model.specs.Model.{IsPlan as IsModelPlan}
use Rattle.mcf_model.specs.Tables.{route_at}
use Rattle.mcf_places.specs.declared.answering.ShownModel.{ShownModel}
use Rattle.mcf_places.specs.declared.places.Bounds.{Bounds}
use Rattle.mcf_places.specs.LimitedPlanners.{limited}
use Rattle.mcf_places.specs.Models.{from_exit, model_of, place_at, plain_route, plan_of}
use Rattle.mcf_places.specs.PlannerLaws.{IsSound, has_bounds}
use Rattle.mcf_places.specs.Planners.{Planner, passes}
use Rattle.mcf_plan_figures.specs.declared.figures.PassFigures.{PassFigures}
use Rattle.mcf_plan_figures.specs.declared.figures.PlaceFigures.{PlaceFigures}
use Rattle.mcf_plan_figures.specs.Changes.{route_in}
use Rattle.mcf_plan_figures.specs.PlannerFigures.{home_of, route_dearer, route_saves, through_dearer, through_number, through_saves}

-- the test of prices and amounts that are all within the limit of figures
abbrev pub has_figures : ShownModel → Bool
has_figures s = are_small s.prices.items && are_small s.carries.items

-- the numbers of the groups of the model's places
abbrev pub groups_in : ShownModel → List ℕ
groups_in s = groups_by s.prices.items s.model s.carries.items

-- what is told of the model's route k
abbrev pub way_told : ShownModel → List ℕ → ℕ → RowFigures
way_told s groups k = row_told s.model s.prices.items s.carries.items groups k

-- the same, but what has no limit of its own may carry any amount more
abbrev pub by_own_limit : Option ℤ → RowFigures → RowFigures
by_own_limit (Some most) told = told
by_own_limit None told = record { cost = told.cost; free = None; saves = told.saves; exact = told.exact; dearer = told.dearer }

-- what is told of what passes through a place, if it has bounds: the model's route k carries that
abbrev pub pass_told : ShownModel → List ℕ → ℕ → Option Bounds → Option PassFigures
pass_told s groups k (Some b) = Some (record { amount = amount_at s.carries.items k; row = by_own_limit b.most (way_told s groups k) })
pass_told s groups k None = None

-- what is told of place v: what one more unit of demand costs there, its group, and what passes
abbrev pub place_told : Planner → ShownModel → List ℕ → ℕ → PlaceFigures
place_told P s groups v =
    record {
      costs = neg_ℤ (at_node s.prices.items (home_of P v));
      group = group_at groups (home_of P v);
      passes = pass_told s groups (through_number P v) (place_at P.places v).through;
    }

-- what is told of all routes, in order; nothing, if numbers are beyond the limit
abbrev pub routes_told : Planner → ShownModel → List RowFigures
routes_told P s = if has_figures s then map (way_told s (groups_in s)) (range_with_len 1 (length P.routes)) else []

-- what is told of all places, in order; nothing, if numbers are beyond the limit
abbrev pub places_told : Planner → ShownModel → List PlaceFigures
places_told P s = if has_figures s then map (place_told P s (groups_in s)) (range_with_len 1 (length P.places)) else []

-- ---- what is told of the model is told of the problem

-- The model's route k is route k of the problem, and its route `through_number P v` is for what
-- passes through place v. So what is told of them are costs, rooms, savings and costs of one unit
-- more of the problem, and the amount that is told does pass. A problem whose bounds got limits has
-- the same numbers.
pub record ToldFiguresAreThePlanners : Type 0 where
  pub route_is : (most : ℤ) (P : Planner) (k : ℕ) → IsNode (length P.routes) k → route_at (model_of most P) k ≡ from_exit P.places (route_in P k)
  pub route_saves_are : (most : ℤ) (P : Planner) (s : ShownModel) (groups : List ℕ) (k : ℕ) → s.model ≡ model_of most P → IsNode (length P.routes) k
      → (way_told s groups k).saves ≡ route_saves s.prices.items P k
  pub route_dearer_is : (most : ℤ) (P : Planner) (s : ShownModel) (groups : List ℕ) (k : ℕ) → s.model ≡ model_of most P → IsNode (length P.routes) k
      → (way_told s groups k).dearer ≡ route_dearer s.prices.items P k (amount_at (plan_of P s.carries.items).carries k)
  pub through_is : (most : ℤ) (P : Planner) (v : ℕ) (b : Bounds) → IsNode (length P.places) v → (place_at P.places v).through ≡ Some b
      → route_at (model_of most P) (through_number P v) ≡ plain_route v (length P.places + 2 + v) b.least b.most b.cost
  pub through_saves_are : (most : ℤ) (P : Planner) (s : ShownModel) (groups : List ℕ) (v : ℕ) → s.model ≡ model_of most P → IsNode (length P.places) v
      → has_bounds P.places v ≡ true
      → (way_told s groups (through_number P v)).saves ≡ through_saves s.prices.items (length P.places) v (place_at P.places v).through
  pub through_dearer_is : (most : ℤ) (P : Planner) (s : ShownModel) (groups : List ℕ) (v : ℕ) → s.model ≡ model_of most P → IsNode (length P.places) v
      → IfSome (place_told P s groups v).passes (λ f. f.row.dearer ≡ through_dearer s.prices.items (length P.places) v (place_at P.places v).through f.amount)
  pub passes_are : (most : ℤ) (P : Planner) (carries : List ℤ) (v : ℕ) → IsSound P → IsModelPlan (model_of most P) carries → IsNode (length P.places) v
      → has_bounds P.places v ≡ true → amount_at carries (through_number P v) ≡ passes P (plan_of P carries) v (place_at P.places v)
  pub same_number : (P : Planner) (v : ℕ) → through_number (limited P) v ≡ through_number P v
  pub same_home : (P : Planner) (v : ℕ) → home_of (limited P) v ≡ home_of P v
