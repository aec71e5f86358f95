-- Nothing that isn't too great or too late departs before the first period, or arrives or is kept
-- after the last.
use Rattle.std.proofs.Common.{◌≡◌, ◌∙◌, ℕ, zero, suc, ◌+◌, ◌-◌, ◌*◌, ◌==◌, ◌<◌, ◌≤◌, Bool, true, false, cond, ◌||◌, List, [], ◌∷◌, ◌++◌, Some, None, length, map, refl, ap, sym, arith}
use Rattle.std.specs.Prelude.{Option, ◌^◌, nat_lt}
use Rattle.std.specs.List.{All, flat_map, range_with_len}
use Rattle.std.proofs.lemmas.Bool.{le-leb, ltb-false}
use Rattle.std.proofs.lemmas.List.{length-map}
use Rattle.std.proofs.lemmas.List.Elements.{All-cons, All-nil}
use Rattle.std.proofs.lemmas.List.FromFn.{length-range_with_len}
use Rattle.mcf_model.specs.Model.{Route as ModelRoute}
use Rattle.mcf_model.proofs.FaultTests.{or_false}
use Rattle.mcf_periods.specs.PeriodLaws.{IsTimed}
use Rattle.mcf_periods.specs.Periods.{Departure}
use Rattle.mcf_periods.specs.declared.rows.Store.{Store}
use Rattle.mcf_places.specs.declared.faults.TheConstants.{PLACE_LIMIT}
use Rattle.mcf_reading.specs.Reading.{route_at}
use Rattle.mcf_units.specs.Wholes.{place_number, route_in}
use Rattle.mcf_units.specs.declared.scales.Scales.{Scales}
use Rattle.mcf_units.specs.declared.terms.Terms.{Terms}
use Rattle.mcf_period_units.specs.DeparturesOver.{departure_count, departures_in, departures_over, one_way, route_departures, ways}
use Rattle.mcf_period_units.specs.Made.{periods_in}
use Rattle.mcf_period_units.specs.Numbering.{place_count, place_numbers, place_rows, spots_of}
use Rattle.mcf_period_units.specs.PeriodEntries.{PeriodEntries, route_time_at}
use Rattle.mcf_period_units.specs.PeriodGreats.{first_departure, great_row, great_rows, greats, is_large, is_late, late_fault, lead_of}
use Rattle.mcf_period_units.specs.PlacesOver.{period_places, period_stores, place_in_period, place_keep, place_store, places_over, store_by, stores_over}
use Rattle.mcf_period_units.specs.Spans.{one_if, period_count, shifted, span_of}
use Rattle.mcf_period_units.specs.UnitRows.{earning_in, unit_rows}
use Rattle.mcf_period_units.specs.declared.faults.PeriodGreat.{PeriodGreat}
use Rattle.mcf_period_units.specs.declared.faults.PeriodGreat.TheVariants.{Late, Number, Places}
use Rattle.mcf_period_units.specs.declared.spans.Span.{Span}
use Rattle.mcf_period_units.specs.declared.unit_rows.UnitKeep.{UnitKeep}
use Rattle.mcf_period_units.proofs.Pieces.{all_pieces, length_pieces, no_piece, none_right}
use Rattle.mcf_units.specs.GreatNumbers.{great_faults}

-- a number no greater than that of the places, and of the two periods that aren't named
fits : (n : ℕ) → n ≤ PLACE_LIMIT + 2 → place_number n ≡ n
fits n few =
    let small : suc n ≤ 2 ^ 32 = omega (arith, few) in
    ap (λ b. cond b n 0) (le-leb (suc n) (2 ^ 32) small)

one_small : (b : Bool) → one_if b ≤ 1
one_small true = omega arith
one_small false = omega arith

not_large : (b : Bool) (rows : List PeriodGreat) → cond b (Places ∷ []) rows ≡ [] → b ≡ false
not_large true rows e = cc e
not_large false rows e = refl

nothing_great : (b : Bool) (rows : List PeriodGreat) → cond b (Places ∷ []) rows ≡ [] → rows ≡ []
nothing_great true rows e = cc e
nothing_great false rows e = e

not_late : (b : Bool) (row : ℕ) → cond b (Late row ∷ []) [] ≡ [] → b ≡ false
not_late true row e = cc e
not_late false row e = refl

module _ (s : Scales) (E : PeriodEntries) (terms : Terms) (clear : greats s E terms ≡ []) where
  large : is_large E ≡ false
  large = not_large (is_large E) (great_rows s E terms) clear

  parts_large : (nat_lt PLACE_LIMIT E.last || nat_lt PLACE_LIMIT (place_count E.places * period_count (span_of E))) ≡ false
  parts_large =
      (or_false (nat_lt PLACE_LIMIT (place_count E.places)) (nat_lt PLACE_LIMIT E.last || nat_lt PLACE_LIMIT (place_count E.places * period_count (span_of E))) large).1

  few_places : place_count E.places ≤ PLACE_LIMIT
  few_places =
      ltb-false PLACE_LIMIT (place_count E.places)
      (or_false (nat_lt PLACE_LIMIT (place_count E.places)) (nat_lt PLACE_LIMIT E.last || nat_lt PLACE_LIMIT (place_count E.places * period_count (span_of E))) large).0

  pub few_periods : E.last ≤ PLACE_LIMIT
  few_periods =
      ltb-false PLACE_LIMIT E.last (or_false (nat_lt PLACE_LIMIT E.last) (nat_lt PLACE_LIMIT (place_count E.places * period_count (span_of E))) parts_large).0

  abbrev span : Span
  span = span_of E

  few_in_all : period_count span ≤ PLACE_LIMIT + 2
  few_in_all = omega (arith, one_small span.before, one_small span.after, few_periods)

  rows_clear : great_rows s E terms ≡ []
  rows_clear = nothing_great (is_large E) (great_rows s E terms) clear

  none_late : flat_map (late_fault E.last E.routes) (range_with_len 1 (length E.said.routes)) ≡ []
  none_late =
      none_right (flat_map (great_row s E.places) (range_with_len 1 (length E.places))) (flat_map (late_fault E.last E.routes) (range_with_len 1 (length E.said.routes)))
      (none_right (map Number (great_faults s E.said terms))
      (flat_map (great_row s E.places) (range_with_len 1 (length E.places)) ++ flat_map (late_fault E.last E.routes) (range_with_len 1 (length E.said.routes))) rows_clear)

  in_time : (k : ℕ) → 1 ≤ k → k < 1 + length E.said.routes → first_departure (route_time_at E.routes k) + lead_of (route_time_at E.routes k).lead ≤ E.last
  in_time k low high =
      let time = route_time_at E.routes k in
      ltb-false E.last (first_departure time + lead_of time.lead)
      (not_late (is_late E.last time) k (no_piece (late_fault E.last E.routes) 1 (length E.said.routes) k none_late low high))

  abbrev IsOn : Departure → Type 0
  IsOn d = (1 ≤ d.period) × ((d.period + d.lead) ≤ place_number (period_count span))

  one_on : (t lead : ℕ) → 1 ≤ t → t + lead ≤ E.last
      → (1 ≤ place_number (shifted span t)) × ((place_number (shifted span t) + lead) ≤ place_number (period_count span))
  one_on t lead low high =
      let same : place_number (shifted span t) ≡ shifted span t = fits (shifted span t) (omega (arith, high, few_periods, one_small span.before)) in
      let end : place_number (period_count span) ≡ period_count span = fits (period_count span) few_in_all in
      (omega (arith, same, low), omega (arith, same, end, high))

  ways_on : (numbers : List ℕ) (r : ModelRoute) (t lead : ℕ) (both : Bool) → 1 ≤ t → t + lead ≤ E.last
      → All IsOn (map (λ back. record { route = one_way numbers back r; period = place_number (shifted span t); lead = lead }) (ways both))
  ways_on numbers r t lead true low high =
      let d : Bool → Departure = λ back. record { route = one_way numbers back r; period = place_number (shifted span t); lead = lead } in
      All-cons IsOn (d false) (d true ∷ []) (one_on t lead low high) (All-cons IsOn (d true) [] (one_on t lead low high) (All-nil IsOn))
  ways_on numbers r t lead false low high =
      let d : Bool → Departure = λ back. record { route = one_way numbers back r; period = place_number (shifted span t); lead = lead } in
      All-cons IsOn (d false) [] (one_on t lead low high) (All-nil IsOn)

  -- each period in which a row departs lets it arrive in time
  arrives : (own : Bool) (period lead t : ℕ) → cond own 1 period + lead ≤ E.last → (own ≡ false → 1 ≤ period) → cond own 1 period ≤ t
      → t < cond own 1 period + cond own (E.last - lead) 1 → (1 ≤ t) × (t + lead ≤ E.last)
  arrives true period lead t fine some low high = (omega (arith, low), omega (arith, fine, low, high))
  arrives false period lead t fine some low high =
      let one = some refl in
      (omega (arith, one, low), omega (arith, fine, low, high))

  own_period : (n : ℕ) → (n == 0) ≡ false → 1 ≤ n
  own_period zero e = cc e
  own_period (suc n) e = omega arith

  departures_on : All IsOn (departures_over s E)
  departures_on =
      all_pieces IsOn (λ k. route_departures (place_numbers E.places) span (route_in s (route_at E.said (k - 1))) (route_time_at E.routes k)) 1
      (length E.said.routes)
      (λ k low high.
      let time = route_time_at E.routes k in
      let r = route_in s (route_at E.said (k - 1)) in
      all_pieces IsOn (departures_in (place_numbers E.places) span r (lead_of time.lead)) (first_departure time) (departure_count E.last time)
      (λ t from to.
      let there = arrives (time.period == 0) time.period (lead_of time.lead) t (in_time k low high) (own_period time.period) from to in
      ways_on (place_numbers E.places) r t (lead_of time.lead) r.both there.0 there.1))

  abbrev IsIn : Store → Type 0
  IsIn x = (1 ≤ x.period) × (suc x.period ≤ place_number (period_count span))

  store_in : (keep : Option UnitKeep) (t v : ℕ) → 1 ≤ t → suc t ≤ period_count span → All IsIn (store_by keep t v)
  store_in None t v low high = All-nil IsIn
  store_in (Some keep) t v low high =
      let same : place_number t ≡ t = fits t (omega (arith, high, few_in_all)) in
      let end : place_number (period_count span) ≡ period_count span = fits (period_count span) few_in_all in
      All-cons IsIn (record { place = place_number v; period = place_number t; most = keep.most; cost = keep.cost }) []
      (omega (arith, same, low), omega (arith, same, end, high)) (All-nil IsIn)

  stores_in : All IsIn (stores_over s E)
  stores_in =
      let limited = earning_in s E in
      let rows = unit_rows s E in
      let spots = spots_of E.places in
      let firsts = place_rows E.places in
      all_pieces IsIn (period_stores limited span rows spots firsts) 1 (period_count span - 1)
      (λ t low high.
      all_pieces IsIn (place_store limited span rows spots firsts t) 1 (length firsts)
      (λ v from to. store_in (place_keep limited span rows spots firsts t v) t v low (omega (arith, low, high))))

  places_listed : length (places_over s E) ≡ place_number (place_count E.places) * place_number (period_count span)
  places_listed =
      let rows = unit_rows s E in
      let spots = spots_of E.places in
      let firsts = place_rows E.places in
      length_pieces (period_places span rows spots firsts) (length firsts) 1 (period_count span)
      (λ t. length-map (range_with_len 1 (length firsts)) (place_in_period span rows spots firsts t) ∙ length-range_with_len 1 (length firsts))
      ∙ sym (ap (λ n. n * place_number (period_count span)) (fits (place_count E.places) (omega (arith, few_places)))
      ∙ ap (λ n. place_count E.places * n) (fits (period_count span) few_in_all))

  pub timed : IsTimed (periods_in s E terms)
  timed = record { listed = places_listed; departures = departures_on; stores = stores_in }
