-- Models in which more units come in at one place, and as many more are taken out at another; and
-- models with more room on a route.
-- Source: own
use Rattle.std.specs.Prelude.{ℕ, ◌-◌, ℤ, neg_ℤ, ◌+ℤ◌, option_map, slice_set}
use Rattle.mcf_figures.specs.Changes.{with_more_at}
use Rattle.mcf_model.specs.Model.{Model, Route}
use Rattle.mcf_model.specs.Tables.{route_at}

-- the model in which d units more come in at place u, and d units more are taken out at place w
abbrev pub with_units : Model → ℕ → ℕ → ℤ → Model
with_units m u w d = record m { supplies = with_more_at (with_more_at m.supplies u d) w (neg_ℤ d) }

-- the route with d units more room in its last step, if that has a limit; a route both ways has it
-- in both directions
abbrev pub wider : ℤ → Route → Route
wider d r = record r { last_most = option_map (λ most. most +ℤ d) r.last_most }

-- the model with d units more room on route k
abbrev pub with_room : Model → ℕ → ℤ → Model
with_room m k d = record m { routes = slice_set m.routes (k - 1) (wider d (route_at m k)) }
