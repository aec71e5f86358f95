use Rattle.std.proofs.Common.{◌≡◌, take}
use Rattle.mcf_groups.specs.Nests.{placed}
use Rattle.mcf_groups.proofs.nests.place_all.Given as goal

abbrev pub invariant-loop-number : goal.invariant-loop-number
invariant-loop-number l = l.before ≡ placed l.place (take l.number l.members) l.initial.before
