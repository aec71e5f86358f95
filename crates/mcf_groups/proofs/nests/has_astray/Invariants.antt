use Rattle.std.proofs.Common.{◌≡◌, drop}
use Rattle.mcf_groups.specs.GroupFaults.{has_astray}
use Rattle.mcf_groups.proofs.nests.has_astray.Given as goal

abbrev pub invariant-loop-place : goal.invariant-loop-place
invariant-loop-place l = has_astray l.count (drop l.place l.members) ≡ has_astray l.count l.members
