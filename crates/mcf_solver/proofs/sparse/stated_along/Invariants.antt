use Rattle.mcf_network.specs.Restoring.{restored}
use Rattle.mcf_solver.proofs.MovedLists.{IsStatedUpTo}
use Rattle.mcf_solver.proofs.sparse.stated_along.Given as goal

abbrev pub invariant-loop-i : goal.invariant-loop-i
invariant-loop-i l = IsStatedUpTo l.instance (restored l.instance.arcs l.state.amounts) l.i l.total l.moved.items
