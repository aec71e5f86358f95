-- The departures of rows of routes.
-- Source: own
use Rattle.std.specs.Prelude.{ℕ, ◌+◌, ◌-◌, ◌==◌, Bool, true, false, if◌then◌else◌, List, [], ◌∷◌, length, map, pos, Some, slice_index_or}
use Rattle.std.specs.List.{flat_map, range_with_len}
use Rattle.mcf_model.specs.Model.{Route}
use Rattle.mcf_model.specs.declared.rows.RouteRow.{RouteRow}
use Rattle.mcf_period_reading.specs.declared.route_times.RouteTime.{RouteTime}
use Rattle.mcf_periods.specs.Periods.{Departure}
use Rattle.mcf_periods.specs.declared.rows.DepartureRow.{DepartureRow}
use Rattle.mcf_reading.specs.Reading.{route_at}
use Rattle.mcf_units.specs.Wholes.{place_number, route_in, rows_in}
use Rattle.mcf_units.specs.declared.scales.Scales.{Scales}
use Rattle.mcf_period_units.specs.Numbering.{number_at, place_numbers}
use Rattle.mcf_period_units.specs.PeriodEntries.{PeriodEntries, route_time_at}
use Rattle.mcf_period_units.specs.PeriodGreats.{first_departure, lead_of}
use Rattle.mcf_period_units.specs.Spans.{shifted, span_of}
use Rattle.mcf_period_units.specs.declared.origins.DepartureOrigin.{DepartureOrigin}
use Rattle.mcf_period_units.specs.declared.spans.Span.{Span}

-- the number of the place that a row names first, in 32 bits
abbrev pub end_number : List ℕ → ℕ → ℕ
end_number numbers row = place_number (number_at numbers row)

-- in how many periods a row departs: in its own, or in each from which it arrives in time
abbrev pub departure_count : ℕ → RouteTime → ℕ
departure_count last time = if time.period == 0 then last - lead_of time.lead else 1

-- the periods in which a row departs
abbrev pub departing : ℕ → RouteTime → List ℕ
departing last time = range_with_len (first_departure time) (departure_count last time)

-- the route between places by number, or its way back, one way
abbrev pub one_way : List ℕ → Bool → Route → Route
one_way numbers back r = record {
  tail = end_number numbers (if back then r.head else r.tail);
  head = end_number numbers (if back then r.tail else r.head);
  least = r.least;
  steps = r.steps;
  last_most = r.last_most;
  last_cost = r.last_cost;
  both = false;
}

-- there, or there and back
abbrev pub ways : Bool → List Bool
ways both = if both then false ∷ true ∷ [] else false ∷ []

-- the departures of a route in a named period
abbrev pub departures_in : List ℕ → Span → Route → ℕ → ℕ → List Departure
departures_in numbers span r lead period =
    map (λ back. record { route = one_way numbers back r; period = place_number (shifted span period); lead = lead }) (ways r.both)

-- the departures of a route in all named periods
abbrev pub route_departures : List ℕ → Span → Route → RouteTime → List Departure
route_departures numbers span r time = flat_map (departures_in numbers span r (lead_of time.lead)) (departing span.last time)

-- the departures of all rows of routes
abbrev pub departures_over : Scales → PeriodEntries → List Departure
departures_over s E =
    flat_map
    (λ row. route_departures (place_numbers E.places) (span_of E) (route_in s (route_at E.said (row - 1))) (route_time_at E.routes row))
    (range_with_len 1 (length E.said.routes))

-- ---- where they come from

-- where the departure of a row in a period comes from, or that of its way back
abbrev pub way_origin : ℕ → ℕ → ℕ → Bool → DepartureOrigin
way_origin row lead period back = record {
  row = place_number row;
  back = back;
  period = place_number period;
  arrival = place_number (period + lead);
}

-- those of a row in a period
abbrev pub origins_in : ℕ → Bool → ℕ → ℕ → List DepartureOrigin
origins_in row both lead period = map (way_origin row lead period) (ways both)

-- those of a row in all periods
abbrev pub route_origins : ℕ → Bool → ℕ → RouteTime → List DepartureOrigin
route_origins row both last time = flat_map (origins_in row both (lead_of time.lead)) (departing last time)

-- ---- the same as rows

-- a row that carries nothing, for rows beyond the last
abbrev pub no_route_row : RouteRow
no_route_row = record {
  tail = 0;
  head = 0;
  first_step = 0;
  step_count = 0;
  least = pos 0;
  last_most = Some (pos 0);
  last_cost = pos 0;
  both = false;
}

-- the row with this number, from 1
abbrev pub route_row_at : List RouteRow → ℕ → RouteRow
route_row_at rows row = slice_index_or rows (row - 1) no_route_row

-- the row between places by number, or its way back, one way
abbrev pub one_way_row : List ℕ → Bool → RouteRow → RouteRow
one_way_row numbers back r = record {
  tail = end_number numbers (if back then r.head else r.tail);
  head = end_number numbers (if back then r.tail else r.head);
  first_step = r.first_step;
  step_count = r.step_count;
  least = r.least;
  last_most = r.last_most;
  last_cost = r.last_cost;
  both = false;
}

-- the departure of a row in a named period, or that of its way back
abbrev pub way_row : List ℕ → Span → RouteRow → ℕ → ℕ → Bool → DepartureRow
way_row numbers span r lead period back =
    record { row = one_way_row numbers back r; period = place_number (shifted span period); lead = lead }

-- the departures of a row in a named period
abbrev pub rows_in_period : List ℕ → Span → RouteRow → ℕ → ℕ → List DepartureRow
rows_in_period numbers span r lead period = map (way_row numbers span r lead period) (ways r.both)

-- the departures of a row in all named periods
abbrev pub row_departures : List ℕ → Span → RouteRow → RouteTime → List DepartureRow
row_departures numbers span r time = flat_map (rows_in_period numbers span r (lead_of time.lead)) (departing span.last time)

-- the departures of these rows
abbrev pub rows_departures : List ℕ → Span → List RouteRow → List RouteTime → List DepartureRow
rows_departures numbers span rows times =
    flat_map (λ row. row_departures numbers span (route_row_at rows row) (route_time_at times row)) (range_with_len 1 (length rows))

-- the departures of all rows
abbrev pub departure_rows : Scales → PeriodEntries → List DepartureRow
departure_rows s E = rows_departures (place_numbers E.places) (span_of E) (rows_in s 0 E.said.routes) E.routes

-- where the departures of these rows come from
abbrev pub rows_origins : ℕ → List RouteRow → List RouteTime → List DepartureOrigin
rows_origins last rows times =
    flat_map (λ row. route_origins row ((route_row_at rows row).both) last (route_time_at times row)) (range_with_len 1 (length rows))

-- where all departures come from
abbrev pub departure_origins : Scales → PeriodEntries → List DepartureOrigin
departure_origins s E = rows_origins E.last (rows_in s 0 E.said.routes) E.routes
