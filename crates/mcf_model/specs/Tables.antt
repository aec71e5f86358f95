-- The storage of models: routes as rows of numbers, and the steps of all routes in one table.
-- Source: own
use Rattle.std.specs.Prelude.{ℕ, ◌-◌, ◌≤◌, false, List, [], length, map, take, drop, ℤ, pos, Some, slice_index_or}
use Rattle.mcf_model.specs.declared.rows.RouteRow.{RouteRow}
use Rattle.mcf_model.specs.declared.rows.Step.{Step}
use Rattle.mcf_model.specs.Model.{Model, Route}

-- the steps of a route before the last: `step_count` of the table, after the first `first_step`
abbrev pub own_steps : List Step → RouteRow → List Step
own_steps steps row = take row.step_count (drop row.first_step steps)

-- the route of a row and of its steps
abbrev pub route_with : RouteRow → List Step → Route
route_with row own =
    record {
      tail = row.tail;
      head = row.head;
      least = row.least;
      steps = own;
      last_most = row.last_most;
      last_cost = row.last_cost;
      both = row.both;
    }

-- the route of a row and of a table of steps
abbrev pub route_of : List Step → RouteRow → Route
route_of steps row = route_with row (own_steps steps row)

-- the model of supplies, a table of steps, and rows of routes
abbrev pub model_of : List ℤ → List Step → List RouteRow → Model
model_of supplies steps rows = record { supplies = supplies; routes = map (route_of steps) rows }

-- ---- routes by number

-- the route that a read past the end would give
abbrev pub no_route : Route
no_route = record { tail = 0; head = 0; least = pos 0; steps = []; last_most = Some (pos 0); last_cost = pos 0; both = false }

-- k is the number of a route; routes count from 1
abbrev pub IsRouteNumber : Model → ℕ → Type 0
IsRouteNumber m k = (1 ≤ k) × (k ≤ length m.routes)

-- route k of a model
abbrev pub route_at : Model → ℕ → Route
route_at m k = slice_index_or m.routes (k - 1) no_route
