use Rattle.std.proofs.Common.{◌≡◌}
use Rattle.std.specs.List.{flat_map, range_with_len}
use Rattle.mcf_period_units.specs.PlacesOver.{period_store_origins, period_stores}
use Rattle.mcf_period_units.proofs.stores_over.all_stores.Given as goal

abbrev pub invariant-loop-place : goal.invariant-loop-place
invariant-loop-place l = record {
  stores : l.made.stores.items ≡ flat_map (period_stores l.fn.rows.limited l.fn.rows.span l.fn.rows.units.now l.fn.rows.spots.now l.fn.rows.firsts.now) (range_with_len 1 l.place);
  origins : l.made.origins.items ≡ flat_map (period_store_origins l.fn.rows.limited l.fn.rows.span l.fn.rows.units.now l.fn.rows.spots.now l.fn.rows.firsts.now) (range_with_len 1 l.place);
}
