-- The problem over periods of two tables, in whole units.
-- Source: own
use Rattle.std.specs.Prelude.{◌≡◌, List, [], ◌++◌, map}
use Rattle.mcf_model.specs.declared.rows.RouteRow.{RouteRow}
use Rattle.mcf_periods.specs.Flat.{flat, flat_row, stock_row}
use Rattle.mcf_periods.specs.PeriodLaws.{IsTimely}
use Rattle.mcf_periods.specs.Periods.{Periods}
use Rattle.mcf_places.specs.PlannerFaults.{IsProperPlanner, planner_faults}
use Rattle.mcf_units.specs.Wholes.{place_number, policy_in, steps_in}
use Rattle.mcf_units.specs.declared.scales.Scales.{Scales}
use Rattle.mcf_units.specs.declared.terms.Terms.{Terms}
use Rattle.mcf_period_units.specs.DeparturesOver.{departure_origins, departure_rows, departures_over}
use Rattle.mcf_period_units.specs.Numbering.{place_count}
use Rattle.mcf_period_units.specs.PeriodEntries.{PeriodEntries}
use Rattle.mcf_period_units.specs.PeriodGreats.{greats}
use Rattle.mcf_period_units.specs.PeriodScales.{scales_over}
use Rattle.mcf_period_units.specs.PlacesOver.{origins_over, places_over, store_origins_over, stores_over}
use Rattle.mcf_period_units.specs.Spans.{period_count, span_of}
use Rattle.mcf_period_units.specs.declared.making.MadeOver.{MadeOver}
use Rattle.mcf_period_units.specs.declared.making.Parts.{Parts}
use Rattle.mcf_period_units.specs.declared.making.MadeOver.TheVariants.{Improper, Problem, TooGreat}
use Rattle.mcf_period_units.specs.declared.origins.PeriodOrigins.{PeriodOrigins}

-- the problem over periods of the tables, in units
abbrev pub periods_in : Scales → PeriodEntries → Terms → Periods
periods_in s E terms = record {
  count = place_number (place_count E.places);
  last = place_number (period_count (span_of E));
  places = places_over s E;
  stores = stores_over s E;
  departures = departures_over s E;
  policy = policy_in s terms;
}

-- where its places, stores and departures come from
pub record ComeFrom (s : Scales) (E : PeriodEntries) (origins : PeriodOrigins) : Type 0 where
  pub places : origins.places.items ≡ origins_over E
  pub stores : origins.stores.items ≡ store_origins_over s E
  pub departures : origins.departures.items ≡ departure_origins s E

-- its parts as rows, and where they come from
pub record IsPartsOf (s : Scales) (E : PeriodEntries) (parts : Parts) : Type 0 where
  pub count : parts.rows.count ≡ place_number (place_count E.places)
  pub last : parts.rows.last ≡ place_number (period_count (span_of E))
  pub places : parts.rows.places.items ≡ places_over s E
  pub steps : parts.rows.steps.items ≡ steps_in s E.said.routes
  pub stores : parts.rows.stores.items ≡ stores_over s E
  pub departures : parts.rows.departures.items ≡ departure_rows s E
  pub come_from : ComeFrom s E parts.origins

-- the rows of routes of the problem without periods: of stores, and then of departures
abbrev pub route_rows : Scales → PeriodEntries → List RouteRow
route_rows s E =
    map (stock_row (place_number (place_count E.places))) (stores_over s E)
    ++ map (flat_row (place_number (place_count E.places))) (departure_rows s E)

-- The problem of the tables in whole units, which has no fault; or else what is too great; or, if
-- nothing is, all faults of the problem.
abbrev pub IsMadeOver : PeriodEntries → Terms → MadeOver → Type 0
IsMadeOver E terms (Problem made) =
    let s = scales_over E terms.penalty in
    (made.scales ≡ s) × (made.planner ≡ flat (periods_in s E terms)) × (greats s E terms ≡ []) × ComeFrom s E made.origins
    × IsProperPlanner made.planner × IsTimely (periods_in s E terms)
IsMadeOver E terms (TooGreat faults) = (faults.items ≡ greats (scales_over E terms.penalty) E terms) × ¬ (faults.items ≡ [])
IsMadeOver E terms (Improper made) =
    let s = scales_over E terms.penalty in
    (greats s E terms ≡ []) × ComeFrom s E made.origins
    × (made.faults.items ≡ planner_faults (places_over s E) (steps_in s E.said.routes) (route_rows s E) (policy_in s terms))
    × ¬ (made.faults.items ≡ [])
