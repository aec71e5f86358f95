-- For how many units the prices of a planner's least plan tell what they cost, and what more room
-- on a route saves. Its model tells both.
-- Source: own
use Rattle.std.specs.Prelude.{◌≡◌, ℕ, ◌-◌, List, ◌∷◌, length, ℤ, pos, ◌+ℤ◌, ◌-ℤ◌, ◌*ℤ◌, ◌≤ℤ◌, Option, Some, IfSome, slice_set, ◌↔◌}
use Rattle.mcf_flows.specs.Network.{IsNode, at_node}
use Rattle.mcf_model.specs.Model.{Route}
use Rattle.mcf_figures.specs.FigureLaws.{IsPriced}
use Rattle.mcf_places.specs.declared.answering.LeastPlannerPlan.{LeastPlannerPlan}
use Rattle.mcf_places.specs.FinerPlanners.{finer}
use Rattle.mcf_places.specs.Models.{exit_of, model_of, plain_route, plan_of}
use Rattle.mcf_places.specs.PlannerLaws.{IsSound}
use Rattle.mcf_places.specs.Planners.{Planner, cost}
use Rattle.mcf_plan_figures.specs.Changes.{route_in}
use Rattle.mcf_plan_figures.specs.PlannerFigureLaws.{HasPlanAt}
use Rattle.mcf_plan_figures.specs.PlannerFigures.{route_saves}
use Rattle.mcf_unit_ranges.specs.Changes.{wider}
use Rattle.mcf_unit_ranges.specs.UnitRanges.{HoldsFor, SavingHoldsFor}

-- ---- problems with more room on a route, and with units from one place to another

-- the problem with d units more room on route k
abbrev pub with_route_rooms : Planner → ℕ → ℤ → Planner
with_route_rooms P k d = record P { routes = slice_set P.routes (k - 1) (wider d (route_in P k)) }

-- a route that has to bring just d units from place w to place u, at no cost
abbrev pub just_units : ℕ → ℕ → ℤ → Route
just_units w u d = plain_route w u d (Some d) (pos 0)

-- the problem in which d units more are taken out at place w, and come in at place u
abbrev pub with_units_between : Planner → ℕ → ℕ → ℤ → Planner
with_units_between P u w d = record P { routes = just_units w u d ∷ P.routes }

-- ---- for how many units

-- in some finer units, some plan with d units more room on route k, in which no more is missing,
-- costs less by just d times what is told
pub record RouteSavingHoldsFor (most : ℤ) (P : Planner) (prices carries : List ℤ) (k : ℕ) (d : ℤ) : Type 0 where
  pub parts : ℤ
  pub some_parts : pos 1 ≤ℤ parts
  pub reached : HasPlanAt (parts *ℤ most) (finer parts (with_route_rooms P k d)) (parts *ℤ (cost P (plan_of P carries) -ℤ d *ℤ route_saves prices P k))

-- in some finer units, some plan in which d units more come in at u and are taken out at w, and no
-- more is missing, costs just what the prices of the entry of u and of the exit of w say
pub record UnitsHoldFor (most : ℤ) (P : Planner) (prices carries : List ℤ) (u w : ℕ) (d : ℤ) : Type 0 where
  pub parts : ℤ
  pub some_parts : pos 1 ≤ℤ parts
  pub reached : HasPlanAt (parts *ℤ most) (finer parts (with_units_between P u w d))
      (parts *ℤ (cost P (plan_of P carries) +ℤ d *ℤ (at_node prices u -ℤ at_node prices (exit_of P.places w))))

-- what room on route k saves, in a least plan that was found in a model of the problem, holds for
-- so many units and for no more; none is no limit
abbrev pub IsRouteRange : Planner → LeastPlannerPlan → ℕ → Option ℤ → Type 0
IsRouteRange P p k range =
    (most : ℤ) → p.shown.model ≡ model_of most P → (d : ℤ) → pos 0 ≤ℤ d
    → RouteSavingHoldsFor most P p.shown.prices.items p.shown.carries.items k d ↔ IfSome range (λ z. d ≤ℤ z)

-- the same, of units that come in at u and are taken out at w
abbrev pub IsUnitsRangeBetween : Planner → LeastPlannerPlan → ℕ → ℕ → Option ℤ → Type 0
IsUnitsRangeBetween P p u w range =
    (most : ℤ) → p.shown.model ≡ model_of most P → (d : ℤ) → pos 0 ≤ℤ d
    → UnitsHoldFor most P p.shown.prices.items p.shown.carries.items u w d ↔ IfSome range (λ z. d ≤ℤ z)

-- ---- the laws

-- what room on a route saves holds in a problem for just the units for which it holds in its model
abbrev pub RouteSavingsAreTheModels : Type 0
RouteSavingsAreTheModels =
    (most : ℤ) (P : Planner) (prices carries : List ℤ) (k : ℕ) (d : ℤ) → IsSound P → IsPriced (model_of most P) prices carries → IsNode (length P.routes) k
    → pos 0 ≤ℤ d → RouteSavingHoldsFor most P prices carries k d ↔ SavingHoldsFor (model_of most P) prices carries k d

-- and so does what units from the entry of one place to the exit of another cost
abbrev pub UnitsAreTheModels : Type 0
UnitsAreTheModels =
    (most : ℤ) (P : Planner) (prices carries : List ℤ) (u w : ℕ) (d : ℤ) → IsSound P → IsPriced (model_of most P) prices carries
    → IsNode (length P.places) u → IsNode (length P.places) w
    → UnitsHoldFor most P prices carries u w d ↔ HoldsFor (model_of most P) prices carries u (exit_of P.places w) d
