use Rattle.std.proofs.Common.{◌-◌}
use Rattle.mcf_simplex.proofs.Rounds.{IsPassed}
use Rattle.mcf_simplex.proofs.block.pick_block.Given as goal

abbrev pub invariant-rounds : goal.invariant-rounds
invariant-rounds l = IsPassed l.basis l.size l.start l.passed

abbrev pub decreases-rounds : goal.decreases-rounds
decreases-rounds l = l.arcs - l.passed
