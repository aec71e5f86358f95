-- What is made of the parts of a problem over periods is that problem.
use Rattle.std.proofs.Common.{◌≡◌, ◌∙◌, List, [], ◌++◌, length, map, Ok, Err, refl, ap, sym, subst}
use Rattle.std.specs.Global.{Vec}
use Rattle.std.proofs.lemmas.List.{nil_from_length}
use Rattle.mcf_model.specs.declared.rows.RouteRow.{RouteRow}
use Rattle.mcf_model.specs.declared.rows.Step.{Step}
use Rattle.mcf_periods.specs.Flat.{IsFlat, departure_of, flat, flat_row, flat_rows, periods_of, stock_row}
use Rattle.mcf_periods.specs.PeriodLaws.{ProperPeriodsAreTimely}
use Rattle.mcf_periods.specs.Periods.{Departure}
use Rattle.mcf_periods.specs.declared.rows.DepartureRow.{DepartureRow}
use Rattle.mcf_periods.specs.declared.rows.Store.{Store}
use Rattle.mcf_places.specs.declared.faults.PlannerFault.{PlannerFault}
use Rattle.mcf_places.specs.declared.places.Place.{Place}
use Rattle.mcf_places.specs.declared.places.Policy.{Policy}
use Rattle.mcf_places.specs.PlannerFaults.{IsProperPlanner, planner_faults}
use Rattle.mcf_places.specs.Planners.{Planner}
use Rattle.mcf_units.specs.Wholes.{place_number, policy_in, steps_in}
use Rattle.mcf_units.specs.declared.scales.Scales.{Scales}
use Rattle.mcf_units.specs.declared.terms.Terms.{Terms}
use Rattle.mcf_period_units.specs.DeparturesOver.{departures_over}
use Rattle.mcf_period_units.specs.Made.{IsMadeOver, IsPartsOf, periods_in, route_rows}
use Rattle.mcf_period_units.specs.Numbering.{place_count}
use Rattle.mcf_period_units.specs.PeriodEntries.{PeriodEntries}
use Rattle.mcf_period_units.specs.PeriodGreats.{greats}
use Rattle.mcf_period_units.specs.PeriodScales.{scales_over}
use Rattle.mcf_period_units.specs.PlacesOver.{places_over, stores_over}
use Rattle.mcf_period_units.specs.Spans.{period_count, span_of}
use Rattle.mcf_period_units.specs.declared.faults.PeriodGreat.{PeriodGreat}
use Rattle.mcf_period_units.specs.declared.making.MadeOver.TheVariants.{Improper, Problem}
use Rattle.mcf_period_units.specs.declared.making.Parts.{Parts}
use Rattle.mcf_period_units.proofs.DeparturesMade.{departures_made}
use Rattle.mcf_period_units.proofs.Timed.{timed}

module _ (E : PeriodEntries) (terms : Terms) (parts : Parts) (policy : Policy) (are : IsPartsOf (scales_over E terms.penalty) E parts)
    (of_policy : policy ≡ policy_in (scales_over E terms.penalty) terms) (clear : greats (scales_over E terms.penalty) E terms ≡ []) where
  abbrev s : Scales
  s = scales_over E terms.penalty

  departures : map (departure_of parts.rows.steps.items) parts.rows.departures.items ≡ departures_over s E
  departures =
      ap (λ (st : List Step). map (departure_of st) parts.rows.departures.items) are.steps
      ∙ ap (λ (ds : List DepartureRow). map (departure_of (steps_in s E.said.routes)) ds) are.departures ∙ departures_made s E

  same : periods_of parts.rows policy ≡ periods_in s E terms
  same =
      ap (λ n. record { count = n; last = parts.rows.last; places = parts.rows.places.items; stores = parts.rows.stores.items; departures = map (departure_of parts.rows.steps.items) parts.rows.departures.items; policy = policy }) are.count
      ∙ ap (λ n. record { count = place_number (place_count E.places); last = n; places = parts.rows.places.items; stores = parts.rows.stores.items; departures = map (departure_of parts.rows.steps.items) parts.rows.departures.items; policy = policy }) are.last
      ∙ ap (λ (ps : List Place). record { count = place_number (place_count E.places); last = place_number (period_count (span_of E)); places = ps; stores = parts.rows.stores.items; departures = map (departure_of parts.rows.steps.items) parts.rows.departures.items; policy = policy }) are.places
      ∙ ap (λ (ss : List Store). record { count = place_number (place_count E.places); last = place_number (period_count (span_of E)); places = places_over s E; stores = ss; departures = map (departure_of parts.rows.steps.items) parts.rows.departures.items; policy = policy }) are.stores
      ∙ ap (λ (ds : List Departure). record { count = place_number (place_count E.places); last = place_number (period_count (span_of E)); places = places_over s E; stores = stores_over s E; departures = ds; policy = policy }) departures
      ∙ ap (λ (p : Policy). record { count = place_number (place_count E.places); last = place_number (period_count (span_of E)); places = places_over s E; stores = stores_over s E; departures = departures_over s E; policy = p }) of_policy

  pub made_problem : ProperPeriodsAreTimely → (P : Planner) → IsFlat parts.rows policy (Ok P) → IsProperPlanner P
      → IsMadeOver E terms (Problem (record { scales = s; origins = parts.origins; planner = P }))
  made_problem law P made proper =
      let is : P ≡ flat (periods_in s E terms) = made.0 ∙ ap flat same in (
        refl,
        is,
        clear,
        are.come_from,
        proper,
        law (periods_in s E terms) (timed s E terms clear) (subst IsProperPlanner is proper),
      )

  rows_same : flat_rows parts.rows ≡ route_rows s E
  rows_same =
      let n = place_number (place_count E.places) in
      ap (λ k. map (stock_row k) parts.rows.stores.items ++ map (flat_row k) parts.rows.departures.items) are.count
      ∙ ap (λ (ss : List Store). map (stock_row n) ss ++ map (flat_row n) parts.rows.departures.items) are.stores
      ∙ ap (λ (ds : List DepartureRow). map (stock_row n) (stores_over s E) ++ map (flat_row n) ds) are.departures

  pub made_improper : (fs : Vec PlannerFault) → IsFlat parts.rows policy (Err fs)
      → IsMadeOver E terms (Improper (record { origins = parts.origins; faults = fs }))
  made_improper fs made = (
    clear,
    are.come_from,
    made.0 ∙ ap (λ (ps : List Place). planner_faults ps parts.rows.steps.items (flat_rows parts.rows) policy) are.places
        ∙ ap (λ (st : List Step). planner_faults (places_over s E) st (flat_rows parts.rows) policy) are.steps
        ∙ ap (λ (rs : List RouteRow). planner_faults (places_over s E) (steps_in s E.said.routes) rs policy) rows_same
        ∙ ap (λ (p : Policy). planner_faults (places_over s E) (steps_in s E.said.routes) (route_rows s E) p) of_policy,
    made.1,
  )

-- ---- the same under scales that are those of the tables

module _ (E : PeriodEntries) (terms : Terms) (s : Scales) (parts : Parts) (policy : Policy) (faults : List PeriodGreat) (scaled : s ≡ scales_over E terms.penalty)
    (are : IsPartsOf s E parts) (of_policy : policy ≡ policy_in s terms) (of_faults : faults ≡ greats s E terms) (none : length faults ≡ 0) where
  parts_are : IsPartsOf (scales_over E terms.penalty) E parts
  parts_are = subst (λ (t : Scales). IsPartsOf t E parts) scaled are

  policy_is : policy ≡ policy_in (scales_over E terms.penalty) terms
  policy_is = of_policy ∙ ap (λ (t : Scales). policy_in t terms) scaled

  nothing : greats (scales_over E terms.penalty) E terms ≡ []
  nothing = sym (of_faults ∙ ap (λ (t : Scales). greats t E terms) scaled) ∙ nil_from_length faults none

  pub problem_made : ProperPeriodsAreTimely → (P : Planner) → IsFlat parts.rows policy (Ok P) → IsProperPlanner P
      → IsMadeOver E terms (Problem (record { scales = s; origins = parts.origins; planner = P }))
  problem_made law P made proper =
      let m = made_problem E terms parts policy parts_are policy_is nothing law P made proper in
      (scaled, m.1, m.2, m.3, m.4, m.5)

  pub improper_made : (fs : Vec PlannerFault) → IsFlat parts.rows policy (Err fs)
      → IsMadeOver E terms (Improper (record { origins = parts.origins; faults = fs }))
  improper_made fs made = made_improper E terms parts policy parts_are policy_is nothing fs made
