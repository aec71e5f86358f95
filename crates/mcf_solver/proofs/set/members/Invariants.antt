use Rattle.mcf_solver.proofs.MemberLists.{AreMembersUpTo}
use Rattle.mcf_solver.proofs.set.members.Given as goal

abbrev pub invariant-loop-i : goal.invariant-loop-i
invariant-loop-i l = AreMembersUpTo l.set l.i l.list.items
