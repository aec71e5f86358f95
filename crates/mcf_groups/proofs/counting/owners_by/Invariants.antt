use Rattle.std.proofs.Common.{◌≡◌, ◌+◌, ◌-◌, ◌++◌, drop, length, map, take}
use Rattle.std.specs.Prelude.{filter, suc}
use Rattle.std.specs.List.{flat_map, range_with_len}
use Rattle.mcf_groups.specs.Counts.{owners_by}
use Rattle.mcf_groups.proofs.counting.owners_by.Given as goal

abbrev pub invariant-loop-place : goal.invariant-loop-place
invariant-loop-place l = l.made.items ≡ owners_by l.group (take l.place l.pairs)
