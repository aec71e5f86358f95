use Rattle.std.proofs.Common.{◌+◌, arith}
use Rattle.mcf_reading.proofs.Ranges.{pushed}
use Rattle.mcf_period_units.specs.PlacesOver.{place_store_origin, place_store}
use Rattle.mcf_period_units.proofs.stores_over.push_period.Goals as goal

pub loop-place-preserved : goal.loop-place-preserved
loop-place-preserved c =
    let place = c.loop-place.place in
    let rows = c.args.rows in
    let before = c.loop-place.made in
    record {
      stores = pushed (place_store rows.limited rows.span rows.units.now rows.spots.now rows.firsts.now c.args.period) 1 place (place + 1) c.args.made.now.stores.items before.stores.items
          c.push_store.new.made.stores.items (omega arith) c.loop-place.invariant.stores c.in_ok-push_store.ensures.stores;
      origins = pushed (place_store_origin rows.limited rows.span rows.units.now rows.spots.now rows.firsts.now c.args.period) 1 place (place + 1) c.args.made.now.origins.items before.origins.items
          c.push_store.new.made.origins.items (omega arith) c.loop-place.invariant.origins c.in_ok-push_store.ensures.origins;
    }
