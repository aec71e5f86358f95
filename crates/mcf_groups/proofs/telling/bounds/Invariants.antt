use Rattle.std.proofs.Common.{◌≡◌, ◌+◌, ◌-◌, ◌++◌, drop, length, map, take}
use Rattle.mcf_roster.specs.Amounts.{bound}
use Rattle.mcf_groups.proofs.telling.bounds.Given as goal

abbrev pub invariant-loop-place : goal.invariant-loop-place
invariant-loop-place l = l.made.items ≡ map (bound l.least) (take l.place l.ranges)
