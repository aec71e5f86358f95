use Rattle.mcf_simplex.proofs.Turns.{HasNoneBefore}
use Rattle.mcf_simplex.proofs.wide.pick_wide.Given as goal

abbrev pub invariant-loop-passed : goal.invariant-loop-passed
invariant-loop-passed l = HasNoneBefore l.basis l.size l.turns l.start l.passed
