-- The ranges of the costs of departures and of stores, as rows of a table. They are those of the
-- problem without periods, whose routes are the stores and then the departures.
-- Source: own
use Rattle.std.specs.Prelude.{◌≡◌, ℕ, suc, ◌<◌, List, [], ◌∷◌, ◌++◌, codes, decimal, drop, length, Option, Some, None, IfNone, IfSome, slice_index_or}
use Rattle.std.specs.List.{flat_map, range_with_len}
use Rattle.mcf_answer_rows.specs.AnswerRows.{line_at}
use Rattle.mcf_flow_tables.specs.declared.period_answer.PeriodAnswer.{PeriodAnswer}
use Rattle.mcf_flow_tables.specs.declared.period_answer.PeriodAnswer.TheVariants.{Faults, Improper, Solved, TooGreat}
use Rattle.mcf_period_text.specs.PeriodAnswerRows.{timed_of}
use Rattle.mcf_period_text.specs.TimedTables.{TimedTables, arrives_at, departure_origin, from_to, leaves_from, place_name, store_origin}
use Rattle.mcf_period_units.specs.declared.origins.DepartureOrigin.{DepartureOrigin}
use Rattle.mcf_period_units.specs.declared.origins.StoreOrigin.{StoreOrigin}
use Rattle.mcf_places.specs.declared.answering.LeastPlannerPlan.{LeastPlannerPlan}
use Rattle.mcf_places.specs.declared.answering.PlannerAnswer.{PlannerAnswer}
use Rattle.mcf_places.specs.declared.answering.PlannerAnswer.TheVariants.{Beyond, Least, NoPlan}
use Rattle.mcf_places.specs.Planners.{Planner}
use Rattle.mcf_places.specs.Planning.{plan_in}
use Rattle.mcf_plan_ranges.specs.PlanRanges.{AreWithinLimits}
use Rattle.mcf_plan_rows.specs.Cells.{rate_text, text_if}
use Rattle.mcf_plan_rows.specs.FaultRows.{TwoTables}
use Rattle.mcf_planner_ranges.specs.PlannerRanges.{IsPlannerRange}
use Rattle.mcf_ranges.specs.declared.range.CostRange.{CostRange}
use Rattle.mcf_units.specs.declared.scales.Scales.{Scales}

-- ---- ranges

-- what is told of route k: the range of its cost; or none, if numbers are beyond the limits of
-- ranges
pub record IsRouteRange (P : Planner) (p : LeastPlannerPlan) (k : ℕ) (told : Option CostRange) : Type 0 where
  pub exact : IfSome told (IsPlannerRange P (plan_in p.plan) k)
  pub none : IfNone told (¬ AreWithinLimits p.shown.model p.shown.prices.items p.shown.carries.items)

-- what is told of all routes, in order
pub record AreRouteRanges (P : Planner) (p : LeastPlannerPlan) (ranges : List (Option CostRange)) : Type 0 where
  pub by_route : length ranges ≡ length P.routes
  pub each : (place : ℕ) → place < length P.routes → IsRouteRange P p (suc place) (slice_index_or ranges place None)

-- what is told of the answer for the problem without periods: nothing, unless it is a least plan
abbrev pub AreFlatRanges : Planner → PlannerAnswer → List (Option CostRange) → Type 0
AreFlatRanges P (Least p) ranges = AreRouteRanges P p ranges
AreFlatRanges P (NoPlan bottleneck) ranges = ranges ≡ []
AreFlatRanges P (Beyond fault) ranges = ranges ≡ []

-- of the answer to two tables over periods
abbrev pub ArePeriodRanges : PeriodAnswer → List (Option CostRange) → Type 0
ArePeriodRanges (Faults f) ranges = ranges ≡ []
ArePeriodRanges (TooGreat faults) ranges = ranges ≡ []
ArePeriodRanges (Improper i) ranges = ranges ≡ []
ArePeriodRanges (Solved s) ranges = AreFlatRanges s.planner s.answer ranges

-- ---- one row

-- by how much the cost of a unit may fall and rise; a cell is empty without a limit
abbrev pub end_cells : Scales → CostRange → List (List ℕ)
end_cells scales range = text_if (rate_text scales) range.down ∷ text_if (rate_text scales) range.up ∷ []

-- the range of a departure: `range`, the line of the route, its ends, the ends of the range, and
-- the periods in which it leaves and arrives
abbrev pub departure_range_row : TimedTables → Scales → DepartureOrigin → CostRange → List (List ℕ)
departure_range_row t scales d range =
    codes "range" ∷ decimal (line_at t.two.routes d.row) ∷ leaves_from t d ∷ arrives_at t d
    ∷ (end_cells scales range ++ from_to t d.period d.arrival)

-- the range of what a place keeps: `keep range`, its line, its name, the ends of the range, the
-- period after which it is kept, and the next one
abbrev pub keep_range_row : TimedTables → Scales → StoreOrigin → CostRange → List (List ℕ)
keep_range_row t scales s range =
    codes "keep range" ∷ decimal (line_at t.two.places s.row) ∷ place_name t s.row
    ∷ (end_cells scales range ++ from_to t s.period (suc s.period))

-- ---- all, in order

-- the row of a range, if it is told
abbrev pub row_if_told : {X : Type 0} → (X → List (List ℕ)) → Option X → List (List (List ℕ))
row_if_told row (Some range) = row range ∷ []
row_if_told row None = []

-- the departure at a place of these ranges
abbrev pub departure_range_at : TimedTables → Scales → List (Option CostRange) → ℕ → List (List (List ℕ))
departure_range_at t scales ranges place =
    row_if_told (departure_range_row t scales (departure_origin t place)) (slice_index_or ranges place None)

-- the store at a place
abbrev pub keep_range_at : TimedTables → Scales → List (Option CostRange) → ℕ → List (List (List ℕ))
keep_range_at t scales ranges place =
    row_if_told (keep_range_row t scales (store_origin t place)) (slice_index_or ranges place None)

-- the rows of all departures; their ranges stand after those of the stores
abbrev pub departure_range_rows : TimedTables → Scales → List (Option CostRange) → List (List (List ℕ))
departure_range_rows t scales ranges =
    flat_map (departure_range_at t scales (drop (length t.origins.stores.items) ranges)) (range_with_len 0 (length t.origins.departures.items))

-- the rows of all stores
abbrev pub keep_range_rows : TimedTables → Scales → List (Option CostRange) → List (List (List ℕ))
keep_range_rows t scales ranges = flat_map (keep_range_at t scales ranges) (range_with_len 0 (length t.origins.stores.items))

-- the rows of an answer to two tables over periods: those of the departures, and then those of the
-- stores
abbrev pub period_range_rows : TwoTables → PeriodAnswer → List (Option CostRange) → List (List (List ℕ))
period_range_rows two (Faults f) ranges = []
period_range_rows two (TooGreat faults) ranges = []
period_range_rows two (Improper i) ranges = []
period_range_rows two (Solved s) ranges =
    departure_range_rows (timed_of two s.origins) s.scales ranges ++ keep_range_rows (timed_of two s.origins) s.scales ranges
