-- Models with one unit more: of room on a route, or of supply.
-- Source: own
use Rattle.std.specs.Prelude.{ℕ, ◌-◌, List, ℤ, pos, negsuc, ◌+ℤ◌, option_map, slice_set}
use Rattle.mcf_flows.specs.Network.{at_node}
use Rattle.mcf_model.specs.Model.{Model, Route}
use Rattle.mcf_model.specs.Tables.{route_at}

-- the route with one unit more room in its last step, if that has a limit; a route both ways has it
-- in both directions
abbrev pub widened : Route → Route
widened r = record r { last_most = option_map (λ most. most +ℤ pos 1) r.last_most }

-- the model with one unit more room on route k
abbrev pub with_more_room : Model → ℕ → Model
with_more_room m k = record m { routes = slice_set m.routes (k - 1) (widened (route_at m k)) }

-- the supplies, with z more at place v
abbrev pub with_more_at : List ℤ → ℕ → ℤ → List ℤ
with_more_at supplies v z = slice_set supplies (v - 1) (at_node supplies v +ℤ z)

-- the model in which place u sends one unit more, and place w one unit less (or takes one more)
abbrev pub with_unit : Model → ℕ → ℕ → Model
with_unit m u w = record m { supplies = with_more_at (with_more_at m.supplies u (pos 1)) w (negsuc 0) }
