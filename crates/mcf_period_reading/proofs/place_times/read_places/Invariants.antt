use Rattle.std.proofs.Common.{◌≡◌, ◌++◌, map}
use Rattle.std.specs.List.{flat_map, range_with_len}
use Rattle.mcf_table.specs.Heads.{cells_of}
use Rattle.mcf_period_reading.specs.PlaceTimes.{place_faults, place_time}
use Rattle.mcf_period_reading.proofs.place_times.read_places.Given as goal

abbrev pub invariant-loop-place : goal.invariant-loop-place
invariant-loop-place l = record {
  times : l.made.items ≡ map (λ row. place_time l.format l.all row (cells_of l.records row)) (range_with_len 1 l.place);
  faults : l.faults.items
      ≡ l.initial.faults.items ++ flat_map (λ row. place_faults l.format l.all row (cells_of l.records row)) (range_with_len 1 l.place);
}
