use Rattle.std.proofs.Common.{◌≡◌}
use Rattle.std.specs.List.{flat_map, range_with_len}
use Rattle.mcf_period_units.specs.DeparturesOver.{route_origins, route_row_at, row_departures}
use Rattle.mcf_period_units.specs.PeriodEntries.{route_time_at}
use Rattle.mcf_period_units.proofs.departing.all_departures.Given as goal

abbrev pub invariant-loop-place : goal.invariant-loop-place
invariant-loop-place l = record {
  rows : l.made.rows.items ≡ flat_map (λ row. row_departures l.numbers l.span (route_row_at l.rows row) (route_time_at l.times row)) (range_with_len 1 l.place);
  origins : l.made.origins.items
      ≡ flat_map (λ row. route_origins row ((route_row_at l.rows row).both) l.span.last (route_time_at l.times row)) (range_with_len 1 l.place);
}
