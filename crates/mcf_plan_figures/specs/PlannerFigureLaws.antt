-- What the figures of a planner's plan say of problems with one unit more, and of plans with one
-- unit more on a route or through a place. `most` is how much may be missing in the model: all that
-- places want, unless as little as possible is to be missing.
-- Source: own, after AMO 9.2
use Rattle.std.specs.Prelude.{◌≡◌, ℕ, true, List, length, ℤ, pos, ◌+ℤ◌, ◌-ℤ◌, ◌≤ℤ◌, ◌<ℤ◌, Some}
use Rattle.mcf_figures.specs.FigureLaws.{CostsMore, HasWayAround, IsPriced}
use Rattle.mcf_figures.specs.Figures.{AreJoined, IsExact, amount_at}
use Rattle.mcf_flows.specs.Network.{IsNode, at_node}
use Rattle.mcf_model.specs.Model.{charged}
use Rattle.mcf_places.specs.Models.{exit_of, model_of, place_at, plan_of}
use Rattle.mcf_places.specs.PlannerLaws.{IsSound, has_bounds}
use Rattle.mcf_places.specs.Planners.{IsPlan, Plan, Planner, cost, passes, total_missing}
use Rattle.mcf_plan_figures.specs.Changes.{route_in, with_route_room, with_through_room, with_unit}
use Rattle.mcf_plan_figures.specs.PlannerFigures.{route_dearer, route_saves, through_dearer, through_number, through_saves}

-- a plan in which no more than `most` is missing
pub record IsPlanWithin (most : ℤ) (P : Planner) (x : Plan) : Type 0 where
  pub is_plan : IsPlan P x
  pub misses_no_more : total_missing P x ≤ℤ most

-- some such plan costs just so much
pub record HasPlanAt (most : ℤ) (P : Planner) (total : ℤ) : Type 0 where
  pub plan : Plan
  pub is_plan : IsPlanWithin most P plan
  pub cost_is : cost P plan ≡ total

-- no such plan costs less
abbrev pub NoneCostsLess : ℤ → Planner → ℤ → Type 0
NoneCostsLess most P total = (x : Plan) → IsPlanWithin most P x → total ≤ℤ cost P x

-- one more unit of room on a route saves at most what is told
abbrev pub RouteSavingsAreBounds : Type 0
RouteSavingsAreBounds =
    (most : ℤ) (P : Planner) (prices carries : List ℤ) (k : ℕ) → IsSound P → IsPriced (model_of most P) prices carries → IsNode (length P.routes) k
    → NoneCostsLess most (with_route_room P k) (cost P (plan_of P carries) -ℤ route_saves prices P k)

-- where that is exact, some plan saves just that
abbrev pub ExactRouteSavingsAreReached : Type 0
ExactRouteSavingsAreReached =
    (most : ℤ) (P : Planner) (prices carries : List ℤ) (k : ℕ) → IsSound P → IsPriced (model_of most P) prices carries → IsNode (length P.routes) k
    → IsExact prices (model_of most P) carries k → HasPlanAt most (with_route_room P k) (cost P (plan_of P carries) -ℤ route_saves prices P k)

-- if one unit more may pass through a place, that saves at most what is told
abbrev pub ThroughSavingsAreBounds : Type 0
ThroughSavingsAreBounds =
    (most : ℤ) (P : Planner) (prices carries : List ℤ) (v : ℕ) → IsSound P → IsPriced (model_of most P) prices carries → IsNode (length P.places) v
    → has_bounds P.places v ≡ true
    → NoneCostsLess most (with_through_room P v) (cost P (plan_of P carries) -ℤ through_saves prices (length P.places) v (place_at P.places v).through)

-- where that is exact, some plan saves just that
abbrev pub ExactThroughSavingsAreReached : Type 0
ExactThroughSavingsAreReached =
    (most : ℤ) (P : Planner) (prices carries : List ℤ) (v : ℕ) → IsSound P → IsPriced (model_of most P) prices carries → IsNode (length P.places) v
    → has_bounds P.places v ≡ true → IsExact prices (model_of most P) carries (through_number P v)
    → HasPlanAt most (with_through_room P v) (cost P (plan_of P carries) -ℤ through_saves prices (length P.places) v (place_at P.places v).through)

-- one unit more that comes in at u and is taken out at w costs at least the difference of the
-- prices of the entry of u and the exit of w
abbrev pub UnitsCostNoLess : Type 0
UnitsCostNoLess =
    (most : ℤ) (P : Planner) (prices carries : List ℤ) (u w : ℕ) → IsSound P → IsPriced (model_of most P) prices carries
    → IsNode (length P.places) u → IsNode (length P.places) w
    → NoneCostsLess most (with_unit P u w) (cost P (plan_of P carries) +ℤ (at_node prices u -ℤ at_node prices (exit_of P.places w)))

-- where loose routes join both, some plan costs just that
abbrev pub JoinedUnitsCostThat : Type 0
JoinedUnitsCostThat =
    (most : ℤ) (P : Planner) (prices carries : List ℤ) (u w : ℕ) → IsSound P → IsPriced (model_of most P) prices carries
    → IsNode (length P.places) u → IsNode (length P.places) w → AreJoined prices (model_of most P) carries u (exit_of P.places w)
    → HasPlanAt most (with_unit P u w) (cost P (plan_of P carries) +ℤ (at_node prices u -ℤ at_node prices (exit_of P.places w)))

-- ---- one unit more on a route, or through a place

-- for how much route k is used: on a route both ways, whatever the direction
abbrev pub used : Planner → Plan → ℕ → ℤ
used P x k = charged (route_in P k).both (amount_at x.carries k)

-- how much passes through place v
abbrev pub passing : Planner → Plan → ℕ → ℤ
passing P x v = passes P x v (place_at P.places v)

-- some such plan in which an amount is `more` costs just so much
pub record HasPlanWith (most : ℤ) (P : Planner) (amount : Plan → ℤ) (more total : ℤ) : Type 0 where
  pub plan : Plan
  pub is_plan : IsPlanWithin most P plan
  pub amount_is : amount plan ≡ more
  pub cost_is : cost P plan ≡ total

-- in each plan in which a route carries more, each unit more costs at least what is told of that
-- route; so there is no such plan if nothing is told
abbrev pub RouteDearerIsABound : Type 0
RouteDearerIsABound =
    (most : ℤ) (P : Planner) (prices carries : List ℤ) (k : ℕ) (x : Plan) → IsSound P → IsPriced (model_of most P) prices carries → IsNode (length P.routes) k
    → IsPlanWithin most P x → used P (plan_of P carries) k <ℤ used P x k
    → CostsMore (route_dearer prices P k (amount_at (plan_of P carries).carries k)) (used P x k -ℤ used P (plan_of P carries) k)
    (cost P (plan_of P carries)) (cost P x)

-- where loose routes lead around the route, some plan in which it carries one unit more costs just
-- that
abbrev pub JoinedRouteDearerIsReached : Type 0
JoinedRouteDearerIsReached =
    (most : ℤ) (P : Planner) (prices carries : List ℤ) (k : ℕ) (z : ℤ) → IsSound P → IsPriced (model_of most P) prices carries → IsNode (length P.routes) k
    → route_dearer prices P k (amount_at (plan_of P carries).carries k) ≡ Some z → HasWayAround prices (model_of most P) carries k
    → HasPlanWith most P (λ x. used P x k) (used P (plan_of P carries) k +ℤ pos 1) (cost P (plan_of P carries) +ℤ z)

-- the same of plans in which more passes through a place with bounds
abbrev pub ThroughDearerIsABound : Type 0
ThroughDearerIsABound =
    (most : ℤ) (P : Planner) (prices carries : List ℤ) (v : ℕ) (x : Plan) → IsSound P → IsPriced (model_of most P) prices carries → IsNode (length P.places) v
    → has_bounds P.places v ≡ true → IsPlanWithin most P x → passing P (plan_of P carries) v <ℤ passing P x v
    → CostsMore (through_dearer prices (length P.places) v (place_at P.places v).through (passing P (plan_of P carries) v))
    (passing P x v -ℤ passing P (plan_of P carries) v) (cost P (plan_of P carries)) (cost P x)

-- where loose routes lead around the place, some plan costs just that
abbrev pub JoinedThroughDearerIsReached : Type 0
JoinedThroughDearerIsReached =
    (most : ℤ) (P : Planner) (prices carries : List ℤ) (v : ℕ) (z : ℤ) → IsSound P → IsPriced (model_of most P) prices carries → IsNode (length P.places) v
    → has_bounds P.places v ≡ true → through_dearer prices (length P.places) v (place_at P.places v).through (passing P (plan_of P carries) v) ≡ Some z
    → HasWayAround prices (model_of most P) carries (through_number P v)
    → HasPlanWith most P (λ x. passing P x v) (passing P (plan_of P carries) v +ℤ pos 1) (cost P (plan_of P carries) +ℤ z)
