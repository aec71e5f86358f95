-- The figures of a planner's problem, by a plan of its model and prices that show it.
-- Source: own
use Rattle.std.specs.Prelude.{ℕ, suc, ◌+◌, ◌-◌, List, length, take, if◌then◌else◌, int_lt, ℤ, pos, Option, Some, None}
use Rattle.mcf_figures.specs.Figures.{dearer, saving}
use Rattle.mcf_places.specs.declared.places.Bounds.{Bounds}
use Rattle.mcf_places.specs.Models.{exit_of, from_exit, place_at, plain_route, routes_by, through_route}
use Rattle.mcf_places.specs.Planners.{Planner}
use Rattle.mcf_plan_figures.specs.Changes.{route_in}

-- what one more unit of room on route k saves, by the prices
abbrev pub route_saves : List ℤ → Planner → ℕ → ℤ
route_saves prices P k = saving prices (from_exit P.places (route_in P k))

-- what it saves if one unit more may pass through a place with bounds
abbrev pub through_saves : List ℤ → ℕ → ℕ → Option Bounds → ℤ
through_saves prices places v (Some b) = saving prices (plain_route v (places + 2 + v) b.least b.most b.cost)
through_saves prices places v None = pos 0

-- what it costs at least, by the prices, if route k, which carries x, has to carry one unit more
abbrev pub route_dearer : List ℤ → Planner → ℕ → ℤ → Option ℤ
route_dearer prices P k x = dearer prices (from_exit P.places (route_in P k)) x

-- what it costs at least if one unit more than x has to pass through a place with bounds
abbrev pub through_dearer : List ℤ → ℕ → ℕ → Option Bounds → ℤ → Option ℤ
through_dearer prices places v (Some b) x = dearer prices (plain_route v (places + 2 + v) b.least b.most b.cost) x
through_dearer prices places v None x = None

-- the number of the model's route for what passes through place v: it comes after the routes, and
-- after those for the places with bounds before v
abbrev pub through_number : Planner → ℕ → ℕ
through_number P v = suc (length P.routes + length (routes_by (through_route P.places) 1 (take (v - 1) P.places)))

-- the place of the model where a unit more of a place's supply comes in, or of its demand goes out
abbrev pub home_of : Planner → ℕ → ℕ
home_of P v = if int_lt (pos 0) (place_at P.places v).supply then v else exit_of P.places v
