-- Each store and each departure of the problem that tables say has one origin.
use Rattle.std.proofs.Common.{◌≡◌, ℕ, zero, suc, ◌+◌, ◌-◌, List, [], ◌∷◌, length, length-append, get_or, refl, ap, sym, ◌∙◌, arith}
use Rattle.std.specs.Prelude.{Option, Some, None}
use Rattle.std.specs.List.{flat_map, range_with_len}
use Rattle.std.proofs.lemmas.List.{length-map}
use Rattle.mcf_period_units.specs.DeparturesOver.{departing, departure_origins, departures_in, departures_over, no_route_row, one_way, origins_in, route_departures, route_origins, route_row_at, way_origin, ways}
use Rattle.mcf_period_units.specs.Made.{ComeFrom, periods_in}
use Rattle.mcf_period_units.specs.Numbering.{first_row_of, place_numbers, place_rows, spots_of}
use Rattle.mcf_period_units.specs.PeriodEntries.{PeriodEntries, route_time_at}
use Rattle.mcf_period_units.specs.PeriodGreats.{lead_of}
use Rattle.mcf_period_units.specs.PlacesOver.{period_store_origins, period_stores, place_keep, place_store, place_store_origin, row_or_first, store_by, store_origin_by, store_origins_over, stores_over, teller}
use Rattle.mcf_period_units.specs.Spans.{named, period_count, shifted, span_of}
use Rattle.mcf_period_units.specs.UnitRows.{earning_in, unit_rows}
use Rattle.mcf_period_units.specs.declared.origins.PeriodOrigins.{PeriodOrigins}
use Rattle.mcf_reading.specs.Reading.{no_route, route_at}
use Rattle.mcf_reading.specs.RouteRows.{Route}
use Rattle.mcf_units.specs.Wholes.{earlier_count, place_number, route_in, rows_in}
use Rattle.mcf_units.specs.declared.scales.Scales.{Scales}
use Rattle.mcf_units.specs.declared.terms.Terms.{Terms}
use Rattle.mcf_range_text.specs.PeriodRanges.{HaveOrigins}

-- pieces that are as long make lists that are as long
as_long : {K X Y : Type 0} (f : K → List X) (g : K → List Y) → ((k : K) → length (f k) ≡ length (g k)) → (ks : List K)
    → length (flat_map f ks) ≡ length (flat_map g ks)
as_long f g e [] = refl
as_long f g e (k ∷ ks) = omega (arith, length-append (f k) (flat_map f ks), length-append (g k) (flat_map g ks), e k, as_long f g e ks)

-- ---- stores

-- lists that are as long whether there is something or not
either_long : {K X Y : Type 0} (f : Option K → List X) (g : Option K → List Y) → length (f None) ≡ length (g None)
    → ((k : K) → length (f (Some k)) ≡ length (g (Some k))) → (o : Option K) → length (f o) ≡ length (g o)
either_long f g none some None = none
either_long f g none some (Some k) = some k

stores_long : (s : Scales) (E : PeriodEntries) → length (store_origins_over s E) ≡ length (stores_over s E)
stores_long s E =
    let limited = earning_in s E in
    let span = span_of E in
    let rows = unit_rows s E in
    let spots = spots_of E.places in
    let firsts = place_rows E.places in
    as_long (period_store_origins limited span rows spots firsts) (period_stores limited span rows spots firsts)
    (λ t. as_long (place_store_origin limited span rows spots firsts t) (place_store limited span rows spots firsts t)
    (λ v.
    either_long (λ keep. store_origin_by keep (row_or_first (teller span spots firsts t v) (first_row_of firsts v)) (named span t))
    (λ keep. store_by keep t v) refl (λ keep. refl) (place_keep limited span rows spots firsts t v))
    (range_with_len 1 (length firsts)))
    (range_with_len 1 (period_count span - 1))

-- ---- departures

rows_long : (s : Scales) (first : ℕ) (routes : List Route) → length (rows_in s first routes) ≡ length routes
rows_long s first [] = refl
rows_long s first (r ∷ routes) = ap suc (rows_long s (first + earlier_count r) routes)

both_ways : (s : Scales) (first : ℕ) (routes : List Route) (k : ℕ) → (get_or (rows_in s first routes) k no_route_row).both ≡ (get_or routes k no_route).both
both_ways s first [] k = refl
both_ways s first (r ∷ routes) zero = refl
both_ways s first (r ∷ routes) (suc k) = both_ways s (first + earlier_count r) routes k

departures_long : (s : Scales) (E : PeriodEntries) → length (departure_origins s E) ≡ length (departures_over s E)
departures_long s E =
    let rows = rows_in s 0 E.said.routes in
    let numbers = place_numbers E.places in
    let span = span_of E in
    let f = λ (k : ℕ). route_origins k ((route_row_at rows k).both) E.last (route_time_at E.routes k) in
    let g = λ (k : ℕ). route_departures numbers span (route_in s (route_at E.said (k - 1))) (route_time_at E.routes k) in
    ap (λ n. length (flat_map f (range_with_len 1 n))) (rows_long s 0 E.said.routes)
    ∙ as_long f g
    (λ k.
    let time = route_time_at E.routes k in
    let r = route_in s (route_at E.said (k - 1)) in
    as_long (origins_in k (route_row_at rows k).both (lead_of time.lead)) (departures_in numbers span r (lead_of time.lead))
    (λ t.
    length-map (ways (route_row_at rows k).both) (way_origin k (lead_of time.lead) t)
    ∙ ap (λ b. length (ways b)) (both_ways s 0 E.said.routes (k - 1))
    ∙ sym (length-map (ways r.both) (λ back. record { route = one_way numbers back r; period = place_number (shifted span t); lead = lead_of time.lead })))
    (departing E.last time))
    (range_with_len 1 (length E.said.routes))

pub have_origins : (s : Scales) (E : PeriodEntries) (terms : Terms) (origins : PeriodOrigins) → ComeFrom s E origins → HaveOrigins (periods_in s E terms) origins
have_origins s E terms origins come =
    record {
      by_store = ap (λ xs. length xs) come.stores ∙ stores_long s E;
      by_departure = ap (λ xs. length xs) come.departures ∙ departures_long s E;
    }
