use Rattle.std.proofs.Common.{◌∙◌, ◌+◌, ◌++◌, ◌∷◌, [], ℕ, ap, arith}
use Rattle.mcf_places.specs.declared.places.Place.{Place}
use Rattle.mcf_reading.proofs.Ranges.{listed}
use Rattle.mcf_period_units.specs.PlacesOver.{place_in_period, place_origin, teller}
use Rattle.mcf_period_units.specs.UnitRows.{place_over, row_at}
use Rattle.mcf_period_units.specs.declared.origins.PlaceOrigin.{PlaceOrigin}
use Rattle.mcf_period_units.specs.declared.unit_rows.UnitRow.{UnitRow}
use Rattle.mcf_period_units.proofs.places_over.push_period.Goals as goal

pub loop-place-preserved : goal.loop-place-preserved
loop-place-preserved c =
    let place = c.loop-place.place in
    let rows = c.args.rows in
    let units = rows.units.now in
    let spots = rows.spots.now in
    let firsts = rows.firsts.now in
    let span = rows.span in
    let period = c.args.period in
    let before = c.loop-place.made in
    record {
      places = listed (place_in_period span units spots firsts period) 1 place (place + 1) c.args.made.now.places.items before.places.items c.push.new.self.items
          (omega arith) c.loop-place.invariant.places
          (c.in_ok-push.ensures.items ∙ ap (λ (p : Place). before.places.items ++ p ∷ []) c.place_over.ensures
          ∙ ap (λ (u : UnitRow). before.places.items ++ place_over span.last u c.named-number.result ∷ []) c.row_at-row.ensures
          ∙ ap (λ (n : ℕ). before.places.items ++ place_over span.last (row_at units n) c.named-number.result ∷ []) c.teller.ensures
          ∙ ap (λ (n : ℕ). before.places.items ++ place_over span.last (row_at units (teller span spots firsts period (place + 1))) n ∷ []) c.named-number.ensures);
      origins = listed (place_origin span spots firsts period) 1 place (place + 1) c.args.made.now.origins.items before.origins.items c.push-in-loop-place.new.self.items
          (omega arith) c.loop-place.invariant.origins
          (c.in_ok-push-2.ensures.items ∙ ap (λ (o : PlaceOrigin). before.origins.items ++ o ∷ []) c.place_origin.ensures);
    }
