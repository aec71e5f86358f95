use Rattle.std.proofs.Common.{length}
use Rattle.mcf_matching.proofs.Raising.{IsFilledUpTo}
use Rattle.mcf_matching.proofs.augmenting.fill.Given as goal

abbrev pub invariant-nodes : goal.invariant-nodes
invariant-nodes l = IsFilledUpTo (length l.fn.set) l.set l.nodes l.v-index
