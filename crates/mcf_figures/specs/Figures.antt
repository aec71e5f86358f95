-- The figures of a plan: what is free on a route, what one more unit of room saves there, what it
-- costs to carry one more unit, and the places between which a unit costs what the prices say.
-- Source: own, after AMO 9.2 and 9.11
use Rattle.std.specs.Prelude.{◌≡◌, ℕ, ◌-◌, ◌^◌, Bool, true, ◌&&◌, List, [], ◌∷◌, if◌then◌else◌, int_le, ℤ, pos, ◌+ℤ◌, ◌-ℤ◌, Option, Some, None, option_map, slice_index_or, ◌⊎◌}
use Rattle.std.specs.Int.{int_max}
use Rattle.std.specs.List.{All}
use Rattle.std.specs.Ordering.{int_eq}
use Rattle.mcf_model.specs.declared.rows.Step.{Step}
use Rattle.mcf_model.specs.Model.{MayCarry, Model, Route, charge, charged, room}
use Rattle.mcf_model.specs.Prices.{price_drop, reduced_route_cost}
use Rattle.mcf_model.specs.Tables.{IsRouteNumber, route_at}

-- how far from 0 a price or an amount lies at most, of which there are figures
abbrev pub figure_limit : ℕ
figure_limit = 10 ^ 36

-- ---- routes

-- the amount that route k carries
abbrev pub amount_at : List ℤ → ℕ → ℤ
amount_at plan k = slice_index_or plan (k - 1) (pos 0)

-- how much more the route may carry, if it carries x; none is no limit
abbrev pub free : Route → ℤ → Option ℤ
free r x = option_map (λ most. room r.steps most -ℤ charged r.both x) r.last_most

-- how far the price drop is above the cost of a unit of the last step; a route both ways is used in
-- the direction in which the price drops
abbrev pub gain : List ℤ → Route → ℤ
gain prices r = charged r.both (price_drop prices r) -ℤ r.last_cost

-- a gain, if it is above 0 and there is a limit; otherwise 0
abbrev pub saving_if : Option ℤ → ℤ → ℤ
saving_if (Some most) z = int_max (pos 0) z
saving_if None z = pos 0

-- what one more unit of room on a route saves, by the prices
abbrev pub saving : List ℤ → Route → ℤ
saving prices r = saving_if r.last_most (gain prices r)

-- ---- one unit more on a route

-- the test of an amount that fits the steps
abbrev pub fits : List Step → Option ℤ → ℤ → Bool
fits steps (Some last_most) x = int_le x (room steps last_most)
fits steps None x = true

-- the cost of one unit more than x
abbrev pub next_cost : Route → ℤ → ℤ
next_cost r x = charge r.steps r.last_cost (charged r.both x +ℤ pos 1) -ℤ charge r.steps r.last_cost (charged r.both x)

-- how far the cost of one unit more than x is above the price drop: its reduced cost, by which the
-- plan becomes dearer at least if the route has to carry one unit more; none, if the route is full;
-- a route both ways is used in the direction in which the price drops
abbrev pub dearer : List ℤ → Route → ℤ → Option ℤ
dearer prices r x =
    if fits r.steps r.last_most (charged r.both x +ℤ pos 1) then Some (next_cost r x -ℤ charged r.both (price_drop prices r)) else None

-- ---- groups of places

-- the route that carries x may carry one unit more, and one unit less, at the same reduced cost: at
-- the cost that the prices say
pub record IsLoose (prices : List ℤ) (r : Route) (x : ℤ) : Type 0 where
  pub may_more : MayCarry r (x +ℤ pos 1)
  pub may_less : MayCarry r (x -ℤ pos 1)
  pub more_is : reduced_route_cost prices r (x +ℤ pos 1) ≡ reduced_route_cost prices r x
  pub less_is : reduced_route_cost prices r (x -ℤ pos 1) ≡ reduced_route_cost prices r x

-- the test of an amount that a route may carry
abbrev pub may_carry : Route → ℤ → Bool
may_carry r x = int_le r.least (charged r.both x) && fits r.steps r.last_most (charged r.both x)

-- the test of two amounts that a route carries at the same reduced cost
abbrev pub costs_the_same : List ℤ → Route → ℤ → ℤ → Bool
costs_the_same prices r x y = int_eq (reduced_route_cost prices r x) (reduced_route_cost prices r y)

-- the test of a loose route
abbrev pub is_loose : List ℤ → Route → ℤ → Bool
is_loose prices r x =
    (may_carry r (x +ℤ pos 1) && may_carry r (x -ℤ pos 1)) && (costs_the_same prices r (x +ℤ pos 1) x && costs_the_same prices r (x -ℤ pos 1) x)

-- a route in one of its directions
pub record Link : Type 0 where
  pub route : ℕ
  pub back : Bool

-- the place where it begins
abbrev pub link_from : Model → Link → ℕ
link_from m l = if l.back then (route_at m l.route).head else (route_at m l.route).tail

-- the place where it ends
abbrev pub link_to : Model → Link → ℕ
link_to m l = if l.back then (route_at m l.route).tail else (route_at m l.route).head

-- each begins where the one before ends; the first begins at u, and the last ends at w
abbrev pub IsChain : Model → ℕ → List Link → ℕ → Type 0
IsChain m u [] w = u ≡ w
IsChain m u (l ∷ rest) w = (link_from m l ≡ u) × IsChain m (link_to m l) rest w

-- the link's route is loose
pub record IsLooseLink (prices : List ℤ) (m : Model) (plan : List ℤ) (l : Link) : Type 0 where
  pub is_route : IsRouteNumber m l.route
  pub loose : IsLoose prices (route_at m l.route) (amount_at plan l.route)

-- loose routes lead from one place to the other, in whatever direction
pub record AreJoined (prices : List ℤ) (m : Model) (plan : List ℤ) (u w : ℕ) : Type 0 where
  pub links : List Link
  pub loose : All (IsLooseLink prices m plan) links
  pub chain : IsChain m u links w

-- one more unit saves nothing, or loose routes join the ends
abbrev pub IsExact : List ℤ → Model → List ℤ → ℕ → Type 0
IsExact prices m plan k =
    (saving prices (route_at m k) ≡ pos 0) ⊎ AreJoined prices m plan (route_at m k).tail (route_at m k).head
