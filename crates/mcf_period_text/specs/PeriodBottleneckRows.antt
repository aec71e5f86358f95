-- Bottlenecks over periods as rows of a table: those of a bottleneck without periods, each with its
-- period at the end, and the rows of the stores that lead out of it or into it.
-- Source: own
use Rattle.std.specs.Prelude.{ℕ, suc, ◌+◌, ◌-◌, false, if◌then◌else◌, ◌||◌, List, [], ◌∷◌, ◌++◌, codes, decimal, length, slice_index_or}
use Rattle.std.specs.List.{flat_map, range_with_len}
use Rattle.mcf_answer_rows.specs.AnswerRows.{line_at}
use Rattle.mcf_places.specs.declared.places.Place.{Place}
use Rattle.mcf_places.specs.declared.told.PlannerBottleneck.{PlannerBottleneck}
use Rattle.mcf_places.specs.Planners.{Planner}
use Rattle.mcf_plan_rows.specs.BottleneckRows.{amount_if, is_away, is_here, is_led, no_place, route_at, set_cells, side_rows, there, way_word}
use Rattle.mcf_plan_rows.specs.declared.bottleneck_rows.Led.{Led}
use Rattle.mcf_units.specs.declared.scales.Scales.{Scales}
use Rattle.mcf_period_text.specs.TimedTables.{TimedTables, arrives_at, departure_origin, from_to, leaves_from, period_name, place_name, place_origin, store_origin, told_row}

-- the place in a period with a number: `place`, its line, its name, the cells of the place of a
-- bottleneck, and the period
abbrev pub timed_set_row : TimedTables → Scales → PlannerBottleneck → Place → ℕ → List (List ℕ)
timed_set_row t scales b p number =
    let o = place_origin t (number - 1) in
    codes "place" ∷ decimal (line_at t.two.places (told_row o)) ∷ place_name t (told_row o)
    ∷ (set_cells scales b p number ++ period_name t.periods o.period ∷ [])

-- the place in a period, if its entry or its exit is one of the bottleneck's
abbrev pub timed_set_rows : TimedTables → Planner → Scales → PlannerBottleneck → ℕ → List (List (List ℕ))
timed_set_rows t P scales b place =
    let entry = slice_index_or b.entries.items place false in
    let exit = slice_index_or b.exits.items place false in
    if entry || exit then timed_set_row t scales b (slice_index_or P.places place no_place) (suc place) ∷ [] else []

-- a departure as a route between places in periods
abbrev pub departure_led : TimedTables → Planner → PlannerBottleneck → ℕ → Led
departure_led t P b place =
    let d = departure_origin t place in
    there b d.back d.row (route_at P (length t.origins.stores.items + place))

-- a store as a route between places in periods
abbrev pub store_led : TimedTables → Planner → PlannerBottleneck → ℕ → Led
store_led t P b place = there b false (store_origin t place).row (route_at P place)

-- a departure: `route` or `back`, the line of the route, its ends, the least that it has to bring
-- here, or the most that it can carry away, and the periods in which it leaves and arrives
abbrev pub departure_led_row : TimedTables → Scales → ℕ → Led → List (List ℕ)
departure_led_row t scales place l =
    let d = departure_origin t place in
    way_word d.back ∷ decimal (line_at t.two.routes d.row) ∷ leaves_from t d ∷ arrives_at t d
    ∷ amount_if (is_here l.leads) scales l.least ∷ amount_if (is_away l.leads) scales l.most ∷ from_to t d.period d.arrival

-- a store: `keep`, its line, its name, these amounts, the period after which it keeps, and the next
abbrev pub store_led_row : TimedTables → Scales → ℕ → Led → List (List ℕ)
store_led_row t scales place l =
    let s = store_origin t place in
    codes "keep" ∷ decimal (line_at t.two.places s.row) ∷ place_name t s.row
    ∷ amount_if (is_here l.leads) scales l.least ∷ amount_if (is_away l.leads) scales l.most ∷ from_to t s.period (suc s.period)

-- the departure at a place, if it leads away or here
abbrev pub departure_led_rows : TimedTables → Planner → Scales → PlannerBottleneck → ℕ → List (List (List ℕ))
departure_led_rows t P scales b place =
    let l = departure_led t P b place in
    if is_led l.leads then departure_led_row t scales place l ∷ [] else []

-- the store at a place, if it leads away or here
abbrev pub store_led_rows : TimedTables → Planner → Scales → PlannerBottleneck → ℕ → List (List (List ℕ))
store_led_rows t P scales b place =
    let l = store_led t P b place in
    if is_led l.leads then store_led_row t scales place l ∷ [] else []

-- a bottleneck over periods: whether its places must send, or take, more than they can; all
-- supplies and all demands; the places in periods; and the departures and the stores that lead away
-- or here
abbrev pub period_bottleneck_rows : TimedTables → Planner → Scales → PlannerBottleneck → List (List (List ℕ))
period_bottleneck_rows t P scales b =
    side_rows P scales b
    ++ (flat_map (timed_set_rows t P scales b) (range_with_len 0 (length b.entries.items))
    ++ (flat_map (departure_led_rows t P scales b) (range_with_len 0 (length t.origins.departures.items))
    ++ flat_map (store_led_rows t P scales b) (range_with_len 0 (length t.origins.stores.items))))
