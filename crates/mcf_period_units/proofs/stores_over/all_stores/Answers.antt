use Rattle.std.proofs.Common.{◌+◌, [], arith}
use Rattle.mcf_reading.proofs.Ranges.{pushed}
use Rattle.mcf_period_units.specs.PlacesOver.{period_store_origins, period_stores}
use Rattle.mcf_period_units.proofs.stores_over.all_stores.Goals as goal

pub loop-place-preserved : goal.loop-place-preserved
loop-place-preserved c =
    let place = c.loop-place.place in
    let rows = c.args.rows in
    let before = c.loop-place.made in
    record {
      stores = pushed (period_stores rows.limited rows.span rows.units.now rows.spots.now rows.firsts.now) 1 place (place + 1) [] before.stores.items
          c.push_period.new.made.stores.items (omega arith) c.loop-place.invariant.stores c.in_ok-push_period.ensures.stores;
      origins = pushed (period_store_origins rows.limited rows.span rows.units.now rows.spots.now rows.firsts.now) 1 place (place + 1) [] before.origins.items
          c.push_period.new.made.origins.items (omega arith) c.loop-place.invariant.origins c.in_ok-push_period.ensures.origins;
    }
