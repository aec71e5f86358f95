-- The problem in which only what is missing costs something, 1 a unit. It has the plans of the
-- problem, and its least plans are those that miss the least.
-- Source: own
use Rattle.std.specs.Prelude.{map, pos, Some, None, option_map}
use Rattle.mcf_model.specs.declared.rows.RouteRow.{RouteRow}
use Rattle.mcf_model.specs.declared.rows.Step.{Step}
use Rattle.mcf_model.specs.Model.{Route}
use Rattle.mcf_places.specs.declared.places.Bounds.{Bounds}
use Rattle.mcf_places.specs.declared.places.Place.{Place}
use Rattle.mcf_places.specs.declared.places.Policy.{Policy}
use Rattle.mcf_places.specs.Planners.{Planner}

-- the step, at no cost
abbrev pub free_step : Step → Step
free_step s = record { most = s.most; cost = pos 0 }

-- the route, at no cost
abbrev pub free_route : Route → Route
free_route r =
    record {
      tail = r.tail;
      head = r.head;
      least = r.least;
      steps = map free_step r.steps;
      last_most = r.last_most;
      last_cost = pos 0;
      both = r.both;
    }

-- the bounds, at no cost
abbrev pub free_bounds : Bounds → Bounds
free_bounds b = record { least = b.least; most = b.most; cost = pos 0 }

-- the place, whose bounds cost nothing, with no penalty of its own
abbrev pub free_place : Place → Place
free_place p = record { supply = p.supply; through = option_map free_bounds p.through; penalty = None }

-- the policy, with a penalty of 1 for all places
abbrev pub counting : Policy → Policy
counting policy = record { unused = policy.unused; short = policy.short; penalty = Some (pos 1) }

-- the problem in which only what is missing costs something
abbrev pub shortage_of : Planner → Planner
shortage_of P =
    record {
      places = map free_place P.places;
      routes = map free_route P.routes;
      returning = P.returning;
      policy = counting P.policy;
    }

-- the row of a route at no cost
abbrev pub free_row : RouteRow → RouteRow
free_row row =
    record {
      tail = row.tail;
      head = row.head;
      first_step = row.first_step;
      step_count = row.step_count;
      least = row.least;
      last_most = row.last_most;
      last_cost = pos 0;
      both = row.both;
    }
