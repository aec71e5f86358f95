use Rattle.std.proofs.Common.{◌≡◌, ◌++◌}
use Rattle.std.specs.List.{flat_map, range_with_len}
use Rattle.mcf_period_units.specs.PlacesOver.{place_store, place_store_origin}
use Rattle.mcf_period_units.proofs.stores_over.push_period.Given as goal

abbrev pub invariant-loop-place : goal.invariant-loop-place
invariant-loop-place l = record {
  stores : l.made.stores.items
      ≡ l.initial.made.stores.items ++ flat_map (place_store l.fn.rows.limited l.fn.rows.span l.fn.rows.units.now l.fn.rows.spots.now l.fn.rows.firsts.now l.period) (range_with_len 1 l.place);
  origins : l.made.origins.items
      ≡ l.initial.made.origins.items ++ flat_map (place_store_origin l.fn.rows.limited l.fn.rows.span l.fn.rows.units.now l.fn.rows.spots.now l.fn.rows.firsts.now l.period) (range_with_len 1 l.place);
}
