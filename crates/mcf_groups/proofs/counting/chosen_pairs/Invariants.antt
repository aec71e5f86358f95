use Rattle.std.proofs.Common.{◌≡◌, ◌+◌, ◌-◌, ◌++◌, drop, length, map, take}
use Rattle.std.specs.Prelude.{filter, suc}
use Rattle.std.specs.List.{flat_map, range_with_len}
use Rattle.mcf_groups.specs.Counts.{chosen_pairs}
use Rattle.mcf_groups.proofs.counting.chosen_pairs.Given as goal

abbrev pub invariant-loop-place : goal.invariant-loop-place
invariant-loop-place l = l.made.items ++ chosen_pairs (drop l.place l.pairs) (drop l.place l.chosen) ≡ chosen_pairs l.pairs l.chosen
