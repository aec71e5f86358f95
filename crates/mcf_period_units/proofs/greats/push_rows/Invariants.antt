use Rattle.std.proofs.Common.{◌≡◌, ◌++◌}
use Rattle.std.specs.List.{flat_map, range_with_len}
use Rattle.mcf_period_units.specs.PeriodGreats.{great_row}
use Rattle.mcf_period_units.proofs.greats.push_rows.Given as goal

abbrev pub invariant-loop-place : goal.invariant-loop-place
invariant-loop-place l =
    l.found.items ≡ l.initial.found.items ++ flat_map (great_row l.scales l.times) (range_with_len 1 l.place)
