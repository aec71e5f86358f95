use Rattle.std.proofs.Common.{◌≡◌}
use Rattle.std.specs.List.{flat_map, range_with_len}
use Rattle.mcf_period_units.specs.PlacesOver.{period_origins, period_places}
use Rattle.mcf_period_units.proofs.places_over.all_places.Given as goal

abbrev pub invariant-loop-place : goal.invariant-loop-place
invariant-loop-place l = record {
  places : l.made.places.items ≡ flat_map (period_places l.fn.rows.span l.fn.rows.units.now l.fn.rows.spots.now l.fn.rows.firsts.now) (range_with_len 1 l.place);
  origins : l.made.origins.items ≡ flat_map (period_origins l.fn.rows.span l.fn.rows.spots.now l.fn.rows.firsts.now) (range_with_len 1 l.place);
}
