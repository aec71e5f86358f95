-- Plans over periods as rows of a table: those of a plan without periods, each with its period at
-- the end, and the rows of what is kept.
-- Source: own
use Rattle.std.specs.Prelude.{ℕ, suc, List, [], ◌∷◌, ◌++◌, codes, decimal, drop, length, map, ℤ, pos, Option, slice_get, slice_index_or}
use Rattle.std.specs.List.{range_with_len}
use Rattle.mcf_answer_rows.specs.AnswerRows.{line_at}
use Rattle.mcf_figures.specs.declared.rows.RowFigures.{RowFigures}
use Rattle.mcf_period_units.specs.declared.origins.DepartureOrigin.{DepartureOrigin}
use Rattle.mcf_period_units.specs.declared.origins.PlaceOrigin.{PlaceOrigin}
use Rattle.mcf_period_units.specs.declared.origins.StoreOrigin.{StoreOrigin}
use Rattle.mcf_places.specs.declared.answering.LeastPlannerPlan.{LeastPlannerPlan}
use Rattle.mcf_places.specs.Planners.{Planner}
use Rattle.mcf_plan_figures.specs.declared.figures.PlaceFigures.{PlaceFigures}
use Rattle.mcf_plan_figures.specs.Told.{places_told, routes_told}
use Rattle.mcf_plan_rows.specs.BottleneckRows.{way_word}
use Rattle.mcf_plan_rows.specs.Cells.{amount_text, figure_cells, place_cells}
use Rattle.mcf_plan_rows.specs.PlanRows.{balance_rows, total_rows}
use Rattle.mcf_units.specs.declared.scales.Scales.{Scales}
use Rattle.mcf_period_text.specs.TimedTables.{TimedTables, arrives_at, departure_origin, from_to, leaves_from, period_name, place_name, place_origin, store_origin, told_row}

-- ---- one row

-- a departure: `route` or `back`, the line of the route, its ends, the amount, its figures, and the
-- periods in which it leaves and arrives
abbrev pub departure_row : TimedTables → Scales → DepartureOrigin → ℤ → Option RowFigures → List (List ℕ)
departure_row t scales d amount told =
    way_word d.back ∷ decimal (line_at t.two.routes d.row) ∷ leaves_from t d ∷ arrives_at t d ∷ amount_text scales amount
    ∷ (figure_cells scales told ++ from_to t d.period d.arrival)

-- what a place keeps: `keep`, its line, its name, the amount, its figures, the period after which
-- it is kept, and the next one
abbrev pub keep_row : TimedTables → Scales → StoreOrigin → ℤ → Option RowFigures → List (List ℕ)
keep_row t scales s amount told =
    codes "keep" ∷ decimal (line_at t.two.places s.row) ∷ place_name t s.row ∷ amount_text scales amount
    ∷ (figure_cells scales told ++ from_to t s.period (suc s.period))

-- a place in a period: `place`, its line, its name, what stays and what is missing there, its
-- figures, and the period
abbrev pub place_row : TimedTables → Scales → PlaceOrigin → ℤ → ℤ → Option PlaceFigures → List (List ℕ)
place_row t scales o stays missing told =
    codes "place" ∷ decimal (line_at t.two.places (told_row o)) ∷ place_name t (told_row o) ∷ amount_text scales stays ∷ amount_text scales missing
    ∷ (place_cells scales told ++ period_name t.periods o.period ∷ [])

-- ---- all, in order

-- the departure at a place of these amounts and figures
abbrev pub departure_row_at : TimedTables → Scales → List ℤ → List RowFigures → ℕ → List (List ℕ)
departure_row_at t scales carries told place =
    departure_row t scales (departure_origin t place) (slice_index_or carries place (pos 0)) (slice_get told place)

-- the store at a place
abbrev pub keep_row_at : TimedTables → Scales → List ℤ → List RowFigures → ℕ → List (List ℕ)
keep_row_at t scales carries told place =
    keep_row t scales (store_origin t place) (slice_index_or carries place (pos 0)) (slice_get told place)

-- the place in a period at a place
abbrev pub place_row_at : TimedTables → Scales → List ℤ → List ℤ → List PlaceFigures → ℕ → List (List ℕ)
place_row_at t scales stays missing told place =
    place_row t scales (place_origin t place) (slice_index_or stays place (pos 0)) (slice_index_or missing place (pos 0)) (slice_get told place)

-- the rows of all departures; their amounts stand after those of the stores, and so do their
-- figures
abbrev pub departure_rows : TimedTables → Scales → List ℤ → List RowFigures → List (List (List ℕ))
departure_rows t scales carries told =
    let stores = length t.origins.stores.items in
    map (departure_row_at t scales (drop stores carries) (drop stores told)) (range_with_len 0 (length t.origins.departures.items))

-- the rows of all stores
abbrev pub keep_rows : TimedTables → Scales → List ℤ → List RowFigures → List (List (List ℕ))
keep_rows t scales carries told = map (keep_row_at t scales carries told) (range_with_len 0 (length t.origins.stores.items))

-- the rows of all places in all periods
abbrev pub place_rows : TimedTables → Scales → List ℤ → List ℤ → List PlaceFigures → List (List (List ℕ))
place_rows t scales stays missing told = map (place_row_at t scales stays missing told) (range_with_len 0 (length t.origins.places.items))

-- a least plan over periods: its totals, all supplies and demands, all departures, what is kept,
-- and all places in all periods, with their figures
abbrev pub period_plan_rows : TimedTables → Planner → Scales → LeastPlannerPlan → List (List (List ℕ))
period_plan_rows t P scales p =
    (total_rows scales p ++ balance_rows P scales)
    ++ (departure_rows t scales p.plan.carries.items (routes_told P p.shown)
    ++ (keep_rows t scales p.plan.carries.items (routes_told P p.shown)
    ++ place_rows t scales p.plan.stays.items p.plan.missing.items (places_told P p.shown)))
