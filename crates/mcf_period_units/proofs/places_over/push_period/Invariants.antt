use Rattle.std.proofs.Common.{◌≡◌, ◌++◌, map}
use Rattle.std.specs.List.{range_with_len}
use Rattle.mcf_period_units.specs.PlacesOver.{place_in_period, place_origin}
use Rattle.mcf_period_units.proofs.places_over.push_period.Given as goal

abbrev pub invariant-loop-place : goal.invariant-loop-place
invariant-loop-place l = record {
  places : l.made.places.items
      ≡ l.initial.made.places.items ++ map (place_in_period l.fn.rows.span l.fn.rows.units.now l.fn.rows.spots.now l.fn.rows.firsts.now l.period) (range_with_len 1 l.place);
  origins : l.made.origins.items
      ≡ l.initial.made.origins.items ++ map (place_origin l.fn.rows.span l.fn.rows.spots.now l.fn.rows.firsts.now l.period) (range_with_len 1 l.place);
}
