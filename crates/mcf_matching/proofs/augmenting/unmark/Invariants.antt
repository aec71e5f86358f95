use Rattle.std.proofs.Common.{length}
use Rattle.mcf_matching.proofs.Raising.{AreUnmarkedUpTo}
use Rattle.mcf_matching.proofs.augmenting.unmark.Given as goal

abbrev pub invariant-nodes : goal.invariant-nodes
invariant-nodes l = AreUnmarkedUpTo (length l.fn.marks) l.marks l.nodes l.v-index
