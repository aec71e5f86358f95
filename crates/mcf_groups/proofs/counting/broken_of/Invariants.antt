use Rattle.std.proofs.Common.{◌≡◌, ◌+◌, ◌-◌, ◌++◌, drop, length, map, take}
use Rattle.std.specs.Prelude.{filter, suc}
use Rattle.std.specs.List.{flat_map, range_with_len}
use Rattle.mcf_groups.specs.Counts.{group_broken}
use Rattle.mcf_groups.specs.Orders.{group_at}
use Rattle.mcf_groups.proofs.counting.broken_of.Given as goal

abbrev pub invariant-loop-place : goal.invariant-loop-place
invariant-loop-place l = l.found.items ≡ flat_map (λ c. group_broken l.roster l.pairs.items c.group (group_at l.groups c.group)) (take l.place l.crossings)
