use Rattle.mcf_basis.proofs.Endings.{IsTreeWritten}
use Rattle.mcf_basis.proofs.ending.write_tree.Given as goal

abbrev pub invariant-loop-i : goal.invariant-loop-i
invariant-loop-i l = IsTreeWritten l.fn.state.net l.tree l.residuals l.fn.state l.state l.i
