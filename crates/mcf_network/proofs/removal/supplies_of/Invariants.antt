use Rattle.std.proofs.Common.{◌≡◌, take}
use Rattle.mcf_network.proofs.removal.supplies_of.Given as goal

abbrev pub invariant-loop-i : goal.invariant-loop-i
invariant-loop-i l = l.supplies.items ≡ take l.i l.instance.supplies
