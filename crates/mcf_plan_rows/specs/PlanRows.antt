-- Plans as rows of a table.
-- Source: own
use Rattle.std.specs.Prelude.{ℕ, suc, List, [], ◌∷◌, ◌++◌, codes, decimal, drop, length, map, ℤ, pos, slice_get, slice_index_or}
use Rattle.std.specs.List.{range_with_len}
use Rattle.mcf_answer_rows.specs.AnswerRows.{answer_row, cell_under, line_at, number_row}
use Rattle.mcf_figures.specs.declared.rows.RowFigures.{RowFigures}
use Rattle.mcf_places.specs.declared.answering.LeastPlannerPlan.{LeastPlannerPlan}
use Rattle.mcf_places.specs.Planners.{Planner, all_given, all_wanted, row_count}
use Rattle.mcf_plan_figures.specs.declared.figures.PlaceFigures.{PlaceFigures}
use Rattle.mcf_plan_figures.specs.Told.{places_told, routes_told}
use Rattle.mcf_table.specs.Texts.{Record}
use Rattle.mcf_units.specs.declared.scales.Scales.{Scales}
use Rattle.mcf_plan_rows.specs.Cells.{amount_text, cost_text, figure_cells, place_cells}
use Rattle.mcf_plan_rows.specs.FaultRows.{TwoTables}

-- what the route of a row carries: `route`, its line, its ends, the amount, and its figures
abbrev pub route_row : Scales → List Record → List ℤ → List RowFigures → ℕ → List (List ℕ)
route_row scales routes carries told place =
    codes "route" ∷ decimal (line_at routes (suc place)) ∷ cell_under (codes "from") routes (suc place)
    ∷ cell_under (codes "to") routes (suc place) ∷ amount_text scales (slice_index_or carries place (pos 0)) ∷ figure_cells scales (slice_get told place)

-- what stays at the place of a row, and what is missing there: `place`, its line, its name, both,
-- and its figures
abbrev pub place_row : Scales → List Record → List ℤ → List ℤ → List PlaceFigures → ℕ → List (List ℕ)
place_row scales places stays missing told place =
    codes "place" ∷ decimal (line_at places (suc place)) ∷ cell_under (codes "name") places (suc place)
    ∷ amount_text scales (slice_index_or stays place (pos 0)) ∷ amount_text scales (slice_index_or missing place (pos 0))
    ∷ place_cells scales (slice_get told place)

-- what goes back on the route of a row, if that is an amount of its own: `back`, its line, its
-- ends, the amount, and its figures
abbrev pub back_row : Scales → List Record → List ℤ → List RowFigures → List ℕ → ℕ → List (List ℕ)
back_row scales routes backs told returning place =
    let row = slice_index_or returning place 0 in
    codes "back" ∷ decimal (line_at routes row) ∷ cell_under (codes "to") routes row ∷ cell_under (codes "from") routes row
    ∷ amount_text scales (slice_index_or backs place (pos 0)) ∷ figure_cells scales (slice_get told place)

-- the rows of all routes, in order
abbrev pub route_rows : Planner → Scales → List Record → List ℤ → List RowFigures → List (List (List ℕ))
route_rows P scales routes carries told = map (route_row scales routes carries told) (range_with_len 0 (row_count P))

-- the rows of what goes back; these amounts stand after those of all rows, and so do their figures
abbrev pub back_rows : Planner → Scales → List Record → List ℤ → List RowFigures → List (List (List ℕ))
back_rows P scales routes carries told =
    map (back_row scales routes (drop (row_count P) carries) (drop (row_count P) told) P.returning) (range_with_len 0 (length P.returning))

-- the rows of all places, in order
abbrev pub place_rows : Scales → List Record → List ℤ → List ℤ → List PlaceFigures → List (List (List ℕ))
place_rows scales places stays missing told = map (place_row scales places stays missing told) (range_with_len 0 (length stays))

-- the kind, the cost, and what is missing in total
abbrev pub total_rows : Scales → LeastPlannerPlan → List (List (List ℕ))
total_rows scales p =
    answer_row (codes "plan") ∷ number_row (codes "cost") (cost_text scales p.cost)
    ∷ number_row (codes "missing") (amount_text scales p.missing) ∷ []

-- all supplies, and all demands
abbrev pub balance_rows : Planner → Scales → List (List (List ℕ))
balance_rows P scales =
    number_row (codes "supply") (amount_text scales (all_given P.places)) ∷ number_row (codes "demand") (amount_text scales (all_wanted P.places)) ∷ []

-- a least plan: its totals, all supplies and demands, all routes, what goes back, and all places,
-- with their figures
abbrev pub plan_rows : TwoTables → Planner → Scales → LeastPlannerPlan → List (List (List ℕ))
plan_rows two P scales p =
    (total_rows scales p ++ balance_rows P scales)
    ++ (route_rows P scales two.routes p.plan.carries.items (routes_told P p.shown)
    ++ (back_rows P scales two.routes p.plan.carries.items (routes_told P p.shown)
    ++ place_rows scales two.places p.plan.stays.items p.plan.missing.items (places_told P p.shown)))
