use Rattle.std.proofs.Common.{◌≡◌, take}
use Rattle.mcf_network.specs.Restoring.{restored}
use Rattle.mcf_network.proofs.restoring.restore.Given as goal

abbrev pub invariant-loop-i : goal.invariant-loop-i
invariant-loop-i l = l.flow.items ≡ take l.i (restored l.instance.arcs l.state.amounts)
