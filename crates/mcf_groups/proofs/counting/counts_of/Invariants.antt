use Rattle.std.proofs.Common.{◌≡◌, ◌+◌, ◌-◌, ◌++◌, drop, length, map, take}
use Rattle.std.specs.Prelude.{filter, suc}
use Rattle.std.specs.List.{flat_map, range_with_len}
use Rattle.mcf_groups.specs.Counts.{group_counts}
use Rattle.mcf_groups.specs.Orders.{group_at}
use Rattle.mcf_groups.proofs.counting.counts_of.Given as goal

abbrev pub invariant-loop-place : goal.invariant-loop-place
invariant-loop-place l = l.found.items ≡ flat_map (λ number. group_counts l.roster l.pairs.items number (group_at l.groups number)) (range_with_len 1 l.place)
