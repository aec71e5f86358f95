-- The departures of rows of numbers are those of the routes.
use Rattle.std.proofs.Common.{◌≡◌, ◌∙◌, ℕ, suc, ◌+◌, ◌-◌, ◌<◌, Bool, true, false, List, [], ◌∷◌, length, map, get_or, refl, ap, sym, arith}
use Rattle.std.specs.List.{flat_map, range_with_len}
use Rattle.std.proofs.lemmas.List.{get_or-map}
use Rattle.mcf_model.specs.Model.{Route as ModelRoute}
use Rattle.mcf_model.specs.Tables.{no_route as no_model_route, route_of}
use Rattle.mcf_model.specs.declared.rows.RouteRow.{RouteRow}
use Rattle.mcf_model.specs.declared.rows.Step.{Step}
use Rattle.mcf_period_reading.specs.declared.route_times.RouteTime.{RouteTime}
use Rattle.mcf_periods.specs.Flat.{departure_of}
use Rattle.mcf_periods.specs.Periods.{Departure}
use Rattle.mcf_reading.specs.Reading.{no_route, route_at}
use Rattle.mcf_reading.specs.RouteRows.{Route}
use Rattle.mcf_units.specs.declared.scales.Scales.{Scales}
use Rattle.mcf_units.specs.Wholes.{earlier_count, place_number, route_in, rows_in, steps_in}
use Rattle.mcf_units.proofs.RowRoutes.{routes_of_rows}
use Rattle.mcf_period_units.specs.DeparturesOver.{departing, departure_count, departure_rows, departures_in, departures_over, no_route_row, one_way, route_departures, route_row_at, row_departures, rows_in_period, ways, way_row}
use Rattle.mcf_period_units.specs.Numbering.{place_numbers}
use Rattle.mcf_period_units.specs.PeriodEntries.{PeriodEntries, route_time_at}
use Rattle.mcf_period_units.specs.PeriodGreats.{first_departure, lead_of}
use Rattle.mcf_period_units.specs.Spans.{shifted, span_of}
use Rattle.mcf_period_units.specs.declared.spans.Span.{Span}
use Rattle.mcf_period_units.proofs.Pieces.{map_pieces, same_pieces}

module _ (steps : List Step) (numbers : List ℕ) (span : Span) where
  in_period : (r : RouteRow) (lead period : ℕ) (both : Bool)
      → map (departure_of steps) (map (way_row numbers span r lead period) (ways both))
      ≡ map (λ back. record { route = one_way numbers back (route_of steps r); period = place_number (shifted span period); lead = lead }) (ways both)
  in_period r lead period true = refl
  in_period r lead period false = refl

  row_made : (r : RouteRow) (time : RouteTime)
      → map (departure_of steps) (row_departures numbers span r time) ≡ route_departures numbers span (route_of steps r) time
  row_made r time =
      map_pieces (departure_of steps) (rows_in_period numbers span r (lead_of time.lead)) (departing span.last time)
      ∙ same_pieces (λ t. map (departure_of steps) (rows_in_period numbers span r (lead_of time.lead) t))
      (departures_in numbers span (route_of steps r) (lead_of time.lead)) (first_departure time) (departure_count span.last time)
      (λ t low high. in_period r (lead_of time.lead) t r.both)

length_rows : (s : Scales) (first : ℕ) (routes : List Route) → length (rows_in s first routes) ≡ length routes
length_rows s first [] = refl
length_rows s first (r ∷ routes) = ap suc (length_rows s (first + earlier_count r) routes)

row_is : (s : Scales) (routes : List Route) (k : ℕ) → k < length routes
    → route_of (steps_in s routes) (get_or (rows_in s 0 routes) k no_route_row) ≡ route_in s (get_or routes k no_route)
row_is s routes k below =
    let rows = rows_in s 0 routes in
    let inside : k < length rows = omega (arith, below, length_rows s 0 routes) in
    sym (get_or-map (route_of (steps_in s routes)) rows k no_route_row no_model_route inside)
    ∙ ap (λ (rs : List ModelRoute). get_or rs k no_model_route) (routes_of_rows s [] routes)
    ∙ get_or-map (route_in s) routes k no_route no_model_route below

pub departures_made : (s : Scales) (E : PeriodEntries)
    → map (departure_of (steps_in s E.said.routes)) (departure_rows s E) ≡ departures_over s E
departures_made s E =
    let steps = steps_in s E.said.routes in
    let rows = rows_in s 0 E.said.routes in
    let numbers = place_numbers E.places in
    let span = span_of E in
    let f : ℕ → List Departure =
    λ k. map (departure_of steps) (row_departures numbers span (route_row_at rows k) (route_time_at E.routes k)) in
    let g : ℕ → List Departure =
    λ k. route_departures numbers span (route_in s (route_at E.said (k - 1))) (route_time_at E.routes k) in
    map_pieces (departure_of steps) (λ k. row_departures numbers span (route_row_at rows k) (route_time_at E.routes k)) (range_with_len 1 (length rows))
    ∙ ap (λ n. flat_map f (range_with_len 1 n)) (length_rows s 0 E.said.routes)
    ∙ same_pieces f g 1 (length E.said.routes)
    (λ k low high.
    row_made steps numbers span (route_row_at rows k) (route_time_at E.routes k)
    ∙ ap (λ (r : ModelRoute). route_departures numbers span r (route_time_at E.routes k)) (row_is s E.said.routes (k - 1) (omega (arith, low, high))))
