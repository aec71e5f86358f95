use Rattle.std.proofs.Common.{◌+◌, [], arith}
use Rattle.mcf_reading.proofs.Ranges.{pushed}
use Rattle.mcf_period_units.specs.PlacesOver.{period_origins, period_places}
use Rattle.mcf_period_units.proofs.places_over.all_places.Goals as goal

pub loop-place-preserved : goal.loop-place-preserved
loop-place-preserved c =
    let place = c.loop-place.place in
    let rows = c.args.rows in
    let before = c.loop-place.made in
    record {
      places = pushed (period_places rows.span rows.units.now rows.spots.now rows.firsts.now) 1 place (place + 1) [] before.places.items
          c.push_period.new.made.places.items (omega arith) c.loop-place.invariant.places c.in_ok-push_period.ensures.places;
      origins = pushed (period_origins rows.span rows.spots.now rows.firsts.now) 1 place (place + 1) [] before.origins.items c.push_period.new.made.origins.items
          (omega arith) c.loop-place.invariant.origins c.in_ok-push_period.ensures.origins;
    }
