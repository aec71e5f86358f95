-- The routes of rows of routes. A row is one route; but where it is used both ways, and what passes
-- through one of its ends has bounds, each way is a route of its own, used one way. Then all that
-- arrives at a place comes by the heads of routes, and the bounds see it.
-- Source: own
use Rattle.std.specs.Prelude.{ℕ, suc, Bool, false, not, ◌&&◌, ◌||◌, List, [], ◌∷◌, ◌++◌, filter, map, if◌then◌else◌}
use Rattle.mcf_model.specs.declared.rows.RouteRow.{RouteRow}
use Rattle.mcf_model.specs.declared.rows.Step.{Step}
use Rattle.mcf_model.specs.Model.{Route}
use Rattle.mcf_model.specs.Tables.{route_of}
use Rattle.mcf_places.specs.declared.places.Place.{Place}
use Rattle.mcf_places.specs.declared.places.Policy.{Policy}
use Rattle.mcf_places.specs.PlannerLaws.{has_bounds}
use Rattle.mcf_places.specs.Planners.{Planner}

-- the numbers of the elements for which a test holds, if the first has a given number
abbrev pub numbers_of : {X : Type 0} → (X → Bool) → ℕ → List X → List ℕ
numbers_of test number [] = []
numbers_of test number (x ∷ xs) =
    if test x then number ∷ numbers_of test (suc number) xs else numbers_of test (suc number) xs

-- what passes through one of the ends has bounds
abbrev pub is_bounded : List Place → ℕ → ℕ → Bool
is_bounded places tail head = has_bounds places tail || has_bounds places head

-- a route is used both ways, and what passes through one of its ends has bounds
abbrev pub is_returning : List Place → Route → Bool
is_returning places r = r.both && is_bounded places r.tail r.head

-- the way there, which is used one way if the way back is a route of its own
abbrev pub way_there : List Place → Route → Route
way_there places r = record r { both = r.both && not (is_bounded places r.tail r.head) }

-- the way back, from the head to the tail, with the same steps and costs
abbrev pub way_back : Route → Route
way_back r = record r { tail = r.head; head = r.tail; both = false }

-- the ways there of all routes, in order, and then the ways back that are routes of their own
abbrev pub ways_of : List Place → List Route → List Route
ways_of places routes = map (way_there places) routes ++ map way_back (filter (is_returning places) routes)

-- the planner's problem of places, routes that may be used both ways, and a policy
abbrev pub problem_of : List Place → List Route → Policy → Planner
problem_of places routes policy =
    record {
      places = places;
      routes = ways_of places routes;
      returning = numbers_of (is_returning places) 1 routes;
      policy = policy;
    }

-- ---- the same of rows

-- a row is used both ways, and what passes through one of its ends has bounds
abbrev pub row_returns : List Place → RouteRow → Bool
row_returns places row = row.both && is_bounded places row.tail row.head

-- the row of the way there
abbrev pub row_there : List Place → RouteRow → RouteRow
row_there places row = record row { both = row.both && not (is_bounded places row.tail row.head) }

-- the row of the way back
abbrev pub row_back : RouteRow → RouteRow
row_back row = record row { tail = row.head; head = row.tail; both = false }

-- the rows of all ways
abbrev pub way_rows : List Place → List RouteRow → List RouteRow
way_rows places rows = map (row_there places) rows ++ map row_back (filter (row_returns places) rows)

-- the planner's problem of tables that have each way as a row
abbrev pub with_tables : List Place → List Step → List RouteRow → List ℕ → Policy → Planner
with_tables places steps rows returning policy =
    record { places = places; routes = map (route_of steps) rows; returning = returning; policy = policy }
