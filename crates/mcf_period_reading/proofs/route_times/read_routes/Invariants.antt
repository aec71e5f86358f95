use Rattle.std.proofs.Common.{◌≡◌, ◌++◌, map}
use Rattle.std.specs.List.{flat_map, range_with_len}
use Rattle.mcf_table.specs.Heads.{cells_of}
use Rattle.mcf_period_reading.specs.RouteTimes.{route_faults, route_time}
use Rattle.mcf_period_reading.proofs.route_times.read_routes.Given as goal

abbrev pub invariant-loop-place : goal.invariant-loop-place
invariant-loop-place l = record {
  times : l.made.items ≡ map (λ row. route_time l.format l.periods (cells_of l.records row)) (range_with_len 1 l.place);
  faults : l.faults.items
      ≡ l.initial.faults.items ++ flat_map (λ row. route_faults l.format l.periods row (cells_of l.records row)) (range_with_len 1 l.place);
}
