use Rattle.std.proofs.Common.{◌≡◌, ◌+◌, ◌-◌, ◌++◌, drop, length, map, take}
use Rattle.std.specs.Prelude.{filter, suc}
use Rattle.std.specs.List.{flat_map, range_with_len}
use Rattle.mcf_groups.specs.Counts.{count_rows}
use Rattle.mcf_groups.proofs.counting.push_counts.Given as goal

abbrev pub invariant-loop-place : goal.invariant-loop-place
invariant-loop-place l = l.found.items ≡ l.initial.found.items ++ flat_map (count_rows l.number l.all l.tallied) (range_with_len 0 l.place)
