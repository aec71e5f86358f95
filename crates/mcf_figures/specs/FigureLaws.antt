-- What the figures of a least plan say of models with one unit more, and of plans in which a route
-- carries more.
-- Source: own, after AMO 9.2
use Rattle.std.specs.Prelude.{◌≡◌, ℕ, List, length, ℤ, pos, ◌+ℤ◌, ◌-ℤ◌, ◌*ℤ◌, ◌≤ℤ◌, ◌<ℤ◌, Option, Some}
use Rattle.mcf_flows.specs.Network.{IsNode, at_node}
use Rattle.mcf_model.specs.Model.{IsPlan, IsSound, IsSoundRoute, MayCarry, Model, Route, charged, plan_cost}
use Rattle.mcf_model.specs.Prices.{IsBestAt, ShowsPlan, reduced_route_cost}
use Rattle.mcf_model.specs.Tables.{IsRouteNumber, route_at}
use Rattle.mcf_figures.specs.Changes.{with_more_room, with_unit}
use Rattle.mcf_figures.specs.Figures.{AreJoined, IsExact, IsLoose, amount_at, dearer, saving}

-- a plan, and prices that show it to be least
pub record IsPriced (m : Model) (prices plan : List ℤ) : Type 0 where
  pub is_plan : IsPlan m plan
  pub shown : ShowsPlan m.routes prices plan

-- some plan costs just so much
pub record HasPlanAt (m : Model) (cost : ℤ) : Type 0 where
  pub plan : List ℤ
  pub is_plan : IsPlan m plan
  pub cost_is : plan_cost m plan ≡ cost

-- one more unit of room on a route saves at most its saving: no plan of the wider model costs less
abbrev pub SavingsAreBounds : Type 0
SavingsAreBounds =
    (m : Model) (prices plan other : List ℤ) (k : ℕ) → IsSound m → IsPriced m prices plan → IsRouteNumber m k
    → IsPlan (with_more_room m k) other
    → (plan_cost m plan -ℤ saving prices (route_at m k)) ≤ℤ plan_cost (with_more_room m k) other

-- where the figure is exact, some plan of the wider model costs just that
abbrev pub ExactSavingsAreReached : Type 0
ExactSavingsAreReached =
    (m : Model) (prices plan : List ℤ) (k : ℕ) → IsSound m → IsPriced m prices plan → IsRouteNumber m k → IsExact prices m plan k
    → HasPlanAt (with_more_room m k) (plan_cost m plan -ℤ saving prices (route_at m k))

-- one unit more from u to w raises the cost at least by the difference of their prices
abbrev pub PricesAreBounds : Type 0
PricesAreBounds =
    (m : Model) (prices plan other : List ℤ) (u w : ℕ) → IsSound m → IsPriced m prices plan → IsNode (length m.supplies) u
    → IsNode (length m.supplies) w → IsPlan (with_unit m u w) other
    → (plan_cost m plan +ℤ (at_node prices u -ℤ at_node prices w)) ≤ℤ plan_cost (with_unit m u w) other

-- between places that loose routes join, some plan costs just that
abbrev pub JoinedPricesAreReached : Type 0
JoinedPricesAreReached =
    (m : Model) (prices plan : List ℤ) (u w : ℕ) → IsSound m → IsPriced m prices plan → IsNode (length m.supplies) u
    → IsNode (length m.supplies) w → AreJoined prices m plan u w
    → HasPlanAt (with_unit m u w) (plan_cost m plan +ℤ (at_node prices u -ℤ at_node prices w))

-- ---- one unit more on a route

-- z isn't below 0; a route that carries x may carry one unit more, whose reduced cost is z; and
-- each unit of greater amounts adds as much to the reduced cost at least
pub record IsLeastRise (prices : List ℤ) (r : Route) (x z : ℤ) : Type 0 where
  pub not_below : pos 0 ≤ℤ z
  pub next : ℤ
  pub may_next : MayCarry r next
  pub one_more : charged r.both next ≡ charged r.both x +ℤ pos 1
  pub rises : reduced_route_cost prices r next ≡ reduced_route_cost prices r x +ℤ z
  pub least : (y : ℤ) → MayCarry r y → charged r.both x <ℤ charged r.both y
      → (reduced_route_cost prices r x +ℤ z *ℤ (charged r.both y -ℤ charged r.both x)) ≤ℤ reduced_route_cost prices r y

-- what is told of one unit more is the least by which the reduced cost rises for each; it is told
-- if the route may carry more than x, and is 0 if the route is loose
pub record DearerIsTheLeastRise : Type 0 where
  pub least_rise : (places : ℕ) (prices : List ℤ) (r : Route) (x z : ℤ) → IsSoundRoute places r → IsBestAt prices r x → dearer prices r x ≡ Some z
      → IsLeastRise prices r x z
  pub told : (prices : List ℤ) (r : Route) (x y : ℤ) → MayCarry r y → charged r.both x <ℤ charged r.both y → (z : ℤ) × (dearer prices r x ≡ Some z)
  pub none_if_loose : (places : ℕ) (prices : List ℤ) (r : Route) (x : ℤ) → IsSoundRoute places r → IsBestAt prices r x → IsLoose prices r x
      → dearer prices r x ≡ Some (pos 0)

-- z is told, and so many units more cost z each at least
abbrev pub CostsMore : Option ℤ → ℤ → ℤ → ℤ → Type 0
CostsMore told units least cost = (z : ℤ) × (told ≡ Some z) × ((least +ℤ z *ℤ units) ≤ℤ cost)

-- in each plan in which a route carries more, each unit more costs at least what is told of that
-- route; so there is no such plan if nothing is told
abbrev pub DearerIsABound : Type 0
DearerIsABound =
    (m : Model) (prices plan other : List ℤ) (k : ℕ) → IsSound m → IsPriced m prices plan → IsRouteNumber m k → IsPlan m other
    → charged (route_at m k).both (amount_at plan k) <ℤ charged (route_at m k).both (amount_at other k)
    → CostsMore (dearer prices (route_at m k) (amount_at plan k)) (charged (route_at m k).both (amount_at other k) -ℤ charged (route_at m k).both (amount_at plan k))
    (plan_cost m plan) (plan_cost m other)

-- a plan in which route k carries one unit more costs just so much
pub record HasPlanWithMore (m : Model) (plan : List ℤ) (k : ℕ) (cost : ℤ) : Type 0 where
  pub other : List ℤ
  pub is_plan : IsPlan m other
  pub one_more : charged (route_at m k).both (amount_at other k) ≡ charged (route_at m k).both (amount_at plan k) +ℤ pos 1
  pub cost_is : plan_cost m other ≡ cost

-- route k isn't loose, and loose routes join its ends: they lead around it
pub record HasWayAround (prices : List ℤ) (m : Model) (plan : List ℤ) (k : ℕ) : Type 0 where
  pub not_loose : ¬ IsLoose prices (route_at m k) (amount_at plan k)
  pub joined : AreJoined prices m plan (route_at m k).tail (route_at m k).head

-- where loose routes lead around a route, some plan costs just that
abbrev pub JoinedDearerIsReached : Type 0
JoinedDearerIsReached =
    (m : Model) (prices plan : List ℤ) (k : ℕ) (z : ℤ) → IsSound m → IsPriced m prices plan → IsRouteNumber m k
    → dearer prices (route_at m k) (amount_at plan k) ≡ Some z → HasWayAround prices m plan k
    → HasPlanWithMore m plan k (plan_cost m plan +ℤ z)
