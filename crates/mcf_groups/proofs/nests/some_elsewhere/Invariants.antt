use Rattle.std.proofs.Common.{◌≡◌, drop}
use Rattle.mcf_groups.specs.GroupFaults.{some_elsewhere}
use Rattle.mcf_groups.proofs.nests.some_elsewhere.Given as goal

abbrev pub invariant-loop-place : goal.invariant-loop-place
invariant-loop-place l = some_elsewhere l.old l.before (drop l.place l.members) ≡ some_elsewhere l.old l.before l.members
