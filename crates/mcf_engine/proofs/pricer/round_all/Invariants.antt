use Rattle.mcf_engine.proofs.RaisingLoops.{AreRoundedUpTo}
use Rattle.mcf_engine.proofs.pricer.round_all.Given as goal

abbrev pub invariant-nodes : goal.invariant-nodes
invariant-nodes l = AreRoundedUpTo l.fn.scale l.fn.prices l.heap l.prices l.i
