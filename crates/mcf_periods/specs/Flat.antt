-- The planner's problem without periods that stands for one over periods: a place for each place in
-- each period, a route for each store, from a period to the next, and one for each departure.
-- Source: own, after the time-expanded networks of AMO 19.6
use Rattle.std.specs.Prelude.{◌≡◌, ◌≤◌, ℕ, suc, ◌+◌, ◌*◌, ◌^◌, ◌&&◌, nat_lt, false, if◌then◌else◌, List, [], ◌++◌, length, map, take, drop, ℤ, pos, Result, Ok, Err}
use Rattle.std.specs.Global.{Vec}
use Rattle.std.specs.List.{All}
use Rattle.mcf_flows.specs.Network.{IsNode}
use Rattle.mcf_model.specs.declared.rows.RouteRow.{RouteRow}
use Rattle.mcf_model.specs.declared.rows.Step.{Step}
use Rattle.mcf_model.specs.Faults.{is_place}
use Rattle.mcf_model.specs.Model.{Route}
use Rattle.mcf_model.specs.Tables.{route_of}
use Rattle.mcf_places.specs.declared.faults.PlannerFault.{PlannerFault}
use Rattle.mcf_places.specs.declared.places.Place.{Place}
use Rattle.mcf_places.specs.declared.places.Policy.{Policy}
use Rattle.mcf_places.specs.PlannerFaults.{planner_faults}
use Rattle.mcf_places.specs.Planners.{Plan, Planner}
use Rattle.mcf_places.specs.Ways.{problem_of}
use Rattle.mcf_periods.specs.declared.rows.DepartureRow.{DepartureRow}
use Rattle.mcf_periods.specs.declared.rows.PeriodRows.{PeriodRows}
use Rattle.mcf_periods.specs.declared.rows.Store.{Store}
use Rattle.mcf_periods.specs.Periods.{Departure, PeriodPlan, Periods, number, way}

-- the number of place v in period t, in 32 bits; 0, which is no place's, if v is no place or if the
-- number doesn't fit
abbrev pub number_in : ℕ → ℕ → ℕ → ℕ
number_in count v t = if is_place count v && nat_lt (number count v t) (2 ^ 32) then number count v t else 0

-- the route of a store, from a period to the next
abbrev pub stock_route : ℕ → Store → Route
stock_route count s = record {
  tail = number_in count s.place s.period;
  head = number_in count s.place (suc s.period);
  least = pos 0;
  steps = [];
  last_most = s.most;
  last_cost = s.cost;
  both = false;
}

-- the route of a departure, from its period to that of its arrival
abbrev pub flat_route : ℕ → Departure → Route
flat_route count d = record {
  tail = number_in count d.route.tail d.period;
  head = number_in count d.route.head (d.period + d.lead);
  least = d.route.least;
  steps = d.route.steps;
  last_most = d.route.last_most;
  last_cost = d.route.last_cost;
  both = false;
}

-- the routes of the stores, and then those of the departures
abbrev pub flat_routes : Periods → List Route
flat_routes P = map (stock_route P.count) P.stores ++ map (flat_route P.count) P.departures

-- the problem without periods
abbrev pub flat : Periods → Planner
flat P = problem_of P.places (flat_routes P) P.policy

-- the plan without periods
abbrev pub flat_plan : PeriodPlan → Plan
flat_plan x = record { carries = x.kept ++ x.carries; stays = x.stays; missing = x.missing }

-- the plan over periods that a plan without periods stands for
abbrev pub period_plan : Periods → Plan → PeriodPlan
period_plan P y = record {
  carries = drop (length P.stores) y.carries;
  kept = take (length P.stores) y.carries;
  stays = y.stays;
  missing = y.missing;
}

-- ---- the same as rows

-- the departure of a row
abbrev pub departure_of : List Step → DepartureRow → Departure
departure_of steps row = record { route = route_of steps row.row; period = row.period; lead = row.lead }

-- the problem over periods of rows
abbrev pub periods_of : PeriodRows → Policy → Periods
periods_of rows policy = record {
  count = rows.count;
  last = rows.last;
  places = rows.places.items;
  stores = rows.stores.items;
  departures = map (departure_of rows.steps.items) rows.departures.items;
  policy = policy;
}

-- the row of a store
abbrev pub stock_row : ℕ → Store → RouteRow
stock_row count s = record {
  tail = number_in count s.place s.period;
  head = number_in count s.place (suc s.period);
  first_step = 0;
  step_count = 0;
  least = pos 0;
  last_most = s.most;
  last_cost = s.cost;
  both = false;
}

-- the row of a departure
abbrev pub flat_row : ℕ → DepartureRow → RouteRow
flat_row count d = record {
  tail = number_in count d.row.tail d.period;
  head = number_in count d.row.head (d.period + d.lead);
  first_step = d.row.first_step;
  step_count = d.row.step_count;
  least = d.row.least;
  last_most = d.row.last_most;
  last_cost = d.row.last_cost;
  both = false;
}

-- the rows of the stores, and then those of the departures
abbrev pub flat_rows : PeriodRows → List RouteRow
flat_rows rows = map (stock_row rows.count) rows.stores.items ++ map (flat_row rows.count) rows.departures.items

-- The problem without periods, if it has no fault; or else all its faults.
abbrev pub IsFlat : PeriodRows → Policy → Result Planner (Vec PlannerFault) → Type 0
IsFlat rows policy (Ok planner) =
    (planner ≡ flat (periods_of rows policy)) × (planner_faults rows.places.items rows.steps.items (flat_rows rows) policy ≡ [])
IsFlat rows policy (Err found) =
    (found.items ≡ planner_faults rows.places.items rows.steps.items (flat_rows rows) policy) × ¬ (found.items ≡ [])
