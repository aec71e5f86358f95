use Rattle.std.proofs.Common.{◌≡◌, ◌+◌, ◌-◌, ◌++◌, drop, length, map, take}
use Rattle.std.specs.Prelude.{filter, suc}
use Rattle.std.specs.List.{flat_map, range_with_len}
use Rattle.mcf_groups.specs.Counts.{times_in}
use Rattle.mcf_groups.proofs.counting.tally.Given as goal

abbrev pub invariant-loop-place : goal.invariant-loop-place
invariant-loop-place l = l.made.items ≡ map (times_in (take l.place l.numbers)) (range_with_len 1 l.count)
