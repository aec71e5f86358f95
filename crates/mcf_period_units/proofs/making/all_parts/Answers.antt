use Rattle.std.proofs.Common.{◌≡◌, ◌∙◌, ℕ, List, length, ap}
use Rattle.mcf_model.specs.declared.rows.RouteRow.{RouteRow}
use Rattle.mcf_model.specs.declared.rows.Step.{Step}
use Rattle.mcf_period_reading.specs.declared.place_times.PlaceTime.{PlaceTime}
use Rattle.mcf_period_reading.specs.declared.route_times.RouteTime.{RouteTime}
use Rattle.mcf_period_reading.specs.declared.spots.Spot.{Spot}
use Rattle.mcf_units.specs.Wholes.{place_number, rows_in, steps_in}
use Rattle.mcf_period_units.specs.DeparturesOver.{rows_departures, rows_origins}
use Rattle.mcf_period_units.specs.Numbering.{place_numbers, place_rows, spots_of}
use Rattle.mcf_period_units.specs.PeriodEntries.{entries_over}
use Rattle.mcf_period_units.specs.PlacesOver.{all_origins, all_places, all_store_origins, all_stores}
use Rattle.mcf_period_units.specs.Spans.{period_count, span_in, span_of}
use Rattle.mcf_period_units.specs.UnitRows.{earning, earning_in, unit_rows}
use Rattle.mcf_period_units.specs.declared.spans.Span.{Span}
use Rattle.mcf_period_units.specs.declared.unit_rows.UnitRow.{UnitRow}
use Rattle.mcf_period_units.proofs.making.all_parts.Goals as goal

-- a function of four things, of the same things
four : {A B C D X : Type 0} (f : A → B → C → D → X) (a e : A) (b g : B) (c h : C) (d i : D) → a ≡ e → b ≡ g → c ≡ h → d ≡ i → f a b c d ≡ f e g h i
four {A} {B} {C} {D} f a e b g c h d i p q r t =
    ap (λ (x : A). f x b c d) p ∙ ap (λ (x : B). f e x c d) q ∙ ap (λ (x : C). f e g x d) r ∙ ap (λ (x : D). f e g h x) t

pub returns : goal.returns
returns c =
    let said = c.args.tables.now in
    let times = c.args.times.now in
    let s = c.args.scales in
    let E = entries_over said times in
    let last = c.len-last.result in
    let span = c.span_in-span.result in
    let limited = c.earning-limited.result in
    let units = c.deref-7.result.now in
    let spots = c.deref-8.result.now in
    let firsts = c.deref-9.result.now in
    let is_span : span ≡ span_of E =
    c.span_in-span.ensures ∙ ap (λ (ts : List PlaceTime). span_in ts last) c.deref.ensures.value ∙ ap (λ n. span_in times.places.items n) c.len-last.ensures in
    let are_units : units ≡ unit_rows s E = c.deref-7.ensures.value ∙ c.in_ok-units.ensures in
    let are_spots : spots ≡ spots_of times.places.items =
    c.deref-8.ensures.value ∙ c.in_ok-spots.ensures ∙ ap spots_of c.deref-2.ensures.value in
    let are_firsts : firsts ≡ place_rows times.places.items = c.deref-9.ensures.value ∙ c.requires.firsts in
    let are_steps : c.deref-5.result.now ≡ steps_in s said.routes = c.deref-5.ensures.value ∙ c.in_ok-routes.ensures.steps in
    let are_rows : c.deref-6.result.now ≡ rows_in s 0 said.routes = c.deref-6.ensures.value ∙ c.in_ok-routes.ensures.rows in
    let is_limited : limited ≡ earning_in s E =
    c.earning-limited.ensures ∙ ap (λ (us : List UnitRow). earning us c.deref-5.result.now c.deref-6.result.now) (c.deref-4.ensures.value ∙ c.in_ok-units.ensures)
    ∙ ap (λ (st : List Step). earning (unit_rows s E) st c.deref-6.result.now) are_steps
    ∙ ap (λ (rs : List RouteRow). earning (unit_rows s E) (steps_in s said.routes) rs) are_rows in
    let numbers = c.deref-10.ensures.value ∙ c.requires.numbers in
    let rows = c.deref-11.ensures.value ∙ c.in_ok-routes.ensures.rows in
    record {
      count = c.place_number.ensures ∙ ap (λ (ns : List ℕ). place_number (length ns)) (c.as_slice-count.ensures.value ∙ c.requires.firsts);
      last = c.place_number-2.ensures ∙ ap (λ n. place_number n) (c.period_count.ensures ∙ ap period_count is_span);
      places = c.in_ok-listed.ensures.places
          ∙ four (λ (sp : Span) (us : List UnitRow) (ss : List Spot) (fs : List ℕ). all_places sp us ss fs) span (span_of E) units (unit_rows s E) spots (spots_of times.places.items) firsts (place_rows times.places.items) is_span are_units are_spots
          are_firsts;
      steps = c.in_ok-routes.ensures.steps;
      stores = c.in_ok-stored.ensures.stores
          ∙ four (λ (sp : Span) (us : List UnitRow) (ss : List Spot) (fs : List ℕ). all_stores limited sp us ss fs) span (span_of E) units (unit_rows s E) spots (spots_of times.places.items) firsts (place_rows times.places.items) is_span are_units are_spots
          are_firsts ∙ ap (λ b. all_stores b (span_of E) (unit_rows s E) (spots_of times.places.items) (place_rows times.places.items)) is_limited;
      departures = c.in_ok-leaving.ensures.rows
          ∙ four (λ (ns : List ℕ) (sp : Span) (rs : List RouteRow) (ts : List RouteTime). rows_departures ns sp rs ts) c.deref-10.result.now
          (place_numbers times.places.items) span (span_of E) c.deref-11.result.now (rows_in s 0 said.routes) c.deref-12.result.now times.routes.items
          numbers is_span rows c.deref-12.ensures.value;
      come_from = record {
        places = c.in_ok-listed.ensures.origins
            ∙ four (λ (sp : Span) (us : List UnitRow) (ss : List Spot) (fs : List ℕ). all_origins sp ss fs) span (span_of E) units (unit_rows s E) spots (spots_of times.places.items) firsts (place_rows times.places.items) is_span are_units are_spots
            are_firsts;
        stores = c.in_ok-stored.ensures.origins
            ∙ four (λ (sp : Span) (us : List UnitRow) (ss : List Spot) (fs : List ℕ). all_store_origins limited sp us ss fs) span (span_of E) units (unit_rows s E) spots (spots_of times.places.items) firsts (place_rows times.places.items) is_span are_units are_spots
            are_firsts ∙ ap (λ b. all_store_origins b (span_of E) (unit_rows s E) (spots_of times.places.items) (place_rows times.places.items)) is_limited;
        departures = c.in_ok-leaving.ensures.origins
            ∙ four (λ (ns : List ℕ) (sp : Span) (rs : List RouteRow) (ts : List RouteTime). rows_origins sp.last rs ts) c.deref-10.result.now
            (place_numbers times.places.items) span (span_of E) c.deref-11.result.now (rows_in s 0 said.routes) c.deref-12.result.now
            times.routes.items numbers is_span rows c.deref-12.ensures.value;
      };
    }
