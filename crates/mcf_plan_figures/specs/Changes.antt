-- Planners' problems with one unit more: of room on a route, of room through a place, or sent from
-- one place to another.
-- Source: own
use Rattle.std.specs.Prelude.{ℕ, ◌-◌, ◌∷◌, Some, pos, ◌+ℤ◌, option_map, slice_index_or, slice_set}
use Rattle.mcf_figures.specs.Changes.{widened}
use Rattle.mcf_model.specs.Model.{Route}
use Rattle.mcf_model.specs.Tables.{no_route}
use Rattle.mcf_places.specs.declared.places.Bounds.{Bounds}
use Rattle.mcf_places.specs.declared.places.Place.{Place}
use Rattle.mcf_places.specs.Models.{place_at, plain_route}
use Rattle.mcf_places.specs.Planners.{Planner}

-- ---- room

-- route k of a problem
abbrev pub route_in : Planner → ℕ → Route
route_in P k = slice_index_or P.routes (k - 1) no_route

-- the problem with one unit more room on route k
abbrev pub with_route_room : Planner → ℕ → Planner
with_route_room P k = record P { routes = slice_set P.routes (k - 1) (widened (route_in P k)) }

-- bounds that let one unit more through, if they have a limit
abbrev pub eased_bounds : Bounds → Bounds
eased_bounds b = record { least = b.least; most = option_map (λ m. m +ℤ pos 1) b.most; cost = b.cost }

-- the place with such bounds
abbrev pub eased : Place → Place
eased p = record { supply = p.supply; through = option_map eased_bounds p.through; penalty = p.penalty }

-- the problem in which one unit more may pass through place v
abbrev pub with_through_room : Planner → ℕ → Planner
with_through_room P v = record P { places = slice_set P.places (v - 1) (eased (place_at P.places v)) }

-- ---- units

-- a route that has to bring just one unit from place w to place u, at no cost
abbrev pub one_unit : ℕ → ℕ → Route
one_unit w u = plain_route w u (pos 1) (Some (pos 1)) (pos 0)

-- the problem in which one unit more is taken out at place w, and comes in at place u
abbrev pub with_unit : Planner → ℕ → ℕ → Planner
with_unit P u w = record P { routes = one_unit w u ∷ P.routes }
