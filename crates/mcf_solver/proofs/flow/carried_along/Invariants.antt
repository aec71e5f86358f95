use Rattle.mcf_network.specs.Restoring.{restored}
use Rattle.mcf_solver.proofs.SentLists.{IsCarriedUpTo}
use Rattle.mcf_solver.proofs.flow.carried_along.Given as goal

abbrev pub invariant-loop-i : goal.invariant-loop-i
invariant-loop-i l = IsCarriedUpTo l.instance (restored l.instance.arcs l.state.amounts) l.i l.total l.sent.items
