-- For how many units the prices of a least plan over periods hold, as rows of a table. The ranges
-- are those of the problem without periods, whose routes are the stores and then the departures,
-- and which has a place for each place in each period.
-- Source: own
use Rattle.std.specs.Prelude.{ℕ, suc, List, [], ◌∷◌, ◌++◌, codes, decimal, drop, length, Option, None, slice_index_or}
use Rattle.std.specs.List.{flat_map, range_with_len}
use Rattle.mcf_answer_rows.specs.AnswerRows.{line_at}
use Rattle.mcf_flow_tables.specs.declared.period_answer.PeriodAnswer.{PeriodAnswer}
use Rattle.mcf_flow_tables.specs.declared.period_answer.PeriodAnswer.TheVariants.{Faults, Improper, Solved, TooGreat}
use Rattle.mcf_flow_tables.specs.declared.period_answer.SolvedPeriods.{SolvedPeriods}
use Rattle.mcf_period_text.specs.PeriodAnswerRows.{timed_of}
use Rattle.mcf_period_text.specs.TimedTables.{TimedTables, arrives_at, departure_origin, from_to, leaves_from, period_name, place_name, place_origin, store_origin, told_row}
use Rattle.mcf_period_units.specs.declared.origins.DepartureOrigin.{DepartureOrigin}
use Rattle.mcf_period_units.specs.declared.origins.PlaceOrigin.{PlaceOrigin}
use Rattle.mcf_period_units.specs.declared.origins.StoreOrigin.{StoreOrigin}
use Rattle.mcf_places.specs.declared.answering.PlannerAnswer.{PlannerAnswer}
use Rattle.mcf_places.specs.declared.answering.PlannerAnswer.TheVariants.{Beyond, Least, NoPlan}
use Rattle.mcf_plan_rows.specs.Cells.{amount_text, rate_text, text_if}
use Rattle.mcf_plan_rows.specs.FaultRows.{TwoTables}
use Rattle.mcf_range_text.specs.PeriodRangeTexts.{row_if_told}
use Rattle.mcf_range_text.specs.declared.supplies.SupplyRange.{SupplyRange}
use Rattle.mcf_range_text.specs.declared.units.UnitRanges.{UnitRanges}
use Rattle.mcf_unit_ranges.specs.declared.ranging.UnitsRange.{UnitsRange}
use Rattle.mcf_units.specs.declared.scales.Scales.{Scales}

-- ---- one row; the cell of the units is empty without a limit

-- the range of the room on a departure: `room range`, the line of the route, its ends, for how many
-- units more room saves what it says, and the periods in which it leaves and arrives
abbrev pub departure_room_row : TimedTables → Scales → DepartureOrigin → UnitsRange → List (List ℕ)
departure_room_row t scales d range =
    codes "room range" ∷ decimal (line_at t.two.routes d.row) ∷ leaves_from t d ∷ arrives_at t d
    ∷ text_if (amount_text scales) range.most ∷ from_to t d.period d.arrival

-- the range of how much more a place may keep: `keep room range`, its line, its name, for how many
-- units more each saves what it says, the period after which it is kept, and the next one
abbrev pub keep_room_row : TimedTables → Scales → StoreOrigin → UnitsRange → List (List ℕ)
keep_room_row t scales s range =
    codes "keep room range" ∷ decimal (line_at t.two.places s.row) ∷ place_name t s.row
    ∷ text_if (amount_text scales) range.most ∷ from_to t s.period (suc s.period)

-- the range of what passes through a place in a period: `pass range`, its line, its name, for how
-- many units that may pass more each saves what it says, and the period
abbrev pub period_pass_row : TimedTables → Scales → PlaceOrigin → UnitsRange → List (List ℕ)
period_pass_row t scales o range =
    codes "pass range" ∷ decimal (line_at t.two.places (told_row o)) ∷ place_name t (told_row o)
    ∷ text_if (amount_text scales) range.most ∷ period_name t.periods o.period ∷ []

-- the range of the supply, or of the demand, of a place in a period: `supply range`, its line, its
-- name, what one more unit costs, which saves something if it is below 0, for how many units that
-- holds, and the period
abbrev pub period_supply_row : TimedTables → Scales → PlaceOrigin → SupplyRange → List (List ℕ)
period_supply_row t scales o range =
    codes "supply range" ∷ decimal (line_at t.two.places (told_row o)) ∷ place_name t (told_row o) ∷ rate_text scales range.cost
    ∷ text_if (amount_text scales) range.most ∷ period_name t.periods o.period ∷ []

-- ---- those at a place of the lists, if they are told

-- the room on the departure at a place of these ranges
abbrev pub departure_room_at : TimedTables → Scales → List (Option UnitsRange) → ℕ → List (List (List ℕ))
departure_room_at t scales ranges place =
    row_if_told (departure_room_row t scales (departure_origin t place)) (slice_index_or ranges place None)

-- how much more the store at a place may keep
abbrev pub keep_room_at : TimedTables → Scales → List (Option UnitsRange) → ℕ → List (List (List ℕ))
keep_room_at t scales ranges place = row_if_told (keep_room_row t scales (store_origin t place)) (slice_index_or ranges place None)

-- what passes through the place in a period
abbrev pub period_pass_at : TimedTables → Scales → List (Option UnitsRange) → ℕ → List (List (List ℕ))
period_pass_at t scales ranges place = row_if_told (period_pass_row t scales (place_origin t place)) (slice_index_or ranges place None)

-- its supply or its demand
abbrev pub period_supply_at : TimedTables → Scales → List (Option SupplyRange) → ℕ → List (List (List ℕ))
period_supply_at t scales ranges place = row_if_told (period_supply_row t scales (place_origin t place)) (slice_index_or ranges place None)

-- ---- all, in order

-- the room on all departures; their ranges stand after those of the stores
abbrev pub departure_room_rows : TimedTables → Scales → List (Option UnitsRange) → List (List (List ℕ))
departure_room_rows t scales ranges =
    flat_map (departure_room_at t scales (drop (length t.origins.stores.items) ranges)) (range_with_len 0 (length t.origins.departures.items))

-- how much more all stores may keep
abbrev pub keep_room_rows : TimedTables → Scales → List (Option UnitsRange) → List (List (List ℕ))
keep_room_rows t scales ranges = flat_map (keep_room_at t scales ranges) (range_with_len 0 (length t.origins.stores.items))

-- what passes through all places in all periods
abbrev pub period_pass_rows : TimedTables → Scales → List (Option UnitsRange) → List (List (List ℕ))
period_pass_rows t scales ranges = flat_map (period_pass_at t scales ranges) (range_with_len 0 (length t.origins.places.items))

-- their supplies and demands
abbrev pub period_supply_rows : TimedTables → Scales → List (Option SupplyRange) → List (List (List ℕ))
period_supply_rows t scales ranges = flat_map (period_supply_at t scales ranges) (range_with_len 0 (length t.origins.places.items))

-- those of a least plan: the rooms of departures and of stores, what passes through places, and
-- their supplies and demands
abbrev pub timed_unit_rows : TimedTables → Scales → UnitRanges → List (List (List ℕ))
timed_unit_rows t scales ranges =
    (departure_room_rows t scales ranges.rooms.items ++ keep_room_rows t scales ranges.rooms.items)
    ++ (period_pass_rows t scales ranges.passes.items ++ period_supply_rows t scales ranges.supplies.items)

-- those of the answer for the problem without periods, if it is a least plan
abbrev pub solved_rows : PlannerAnswer → List (List (List ℕ)) → List (List (List ℕ))
solved_rows (Least p) rows = rows
solved_rows (NoPlan bottleneck) rows = []
solved_rows (Beyond fault) rows = []

-- those of a problem over periods that was solved
abbrev pub solved_period_unit_rows : TwoTables → SolvedPeriods → UnitRanges → List (List (List ℕ))
solved_period_unit_rows two s ranges = solved_rows s.answer (timed_unit_rows (timed_of two s.origins) s.scales ranges)

-- those of an answer to two tables over periods
abbrev pub period_unit_rows : TwoTables → PeriodAnswer → UnitRanges → List (List (List ℕ))
period_unit_rows two (Faults f) ranges = []
period_unit_rows two (TooGreat faults) ranges = []
period_unit_rows two (Improper i) ranges = []
period_unit_rows two (Solved s) ranges = solved_period_unit_rows two s ranges
