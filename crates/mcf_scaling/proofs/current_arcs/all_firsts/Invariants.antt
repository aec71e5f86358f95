use Rattle.mcf_scaling.specs.Private.CurrentArcs.{AreFirsts}
use Rattle.mcf_scaling.proofs.current_arcs.all_firsts.Given as goal

abbrev pub invariant-nodes : goal.invariant-nodes
invariant-nodes l = AreFirsts l.fn.star l.firsts.items l.number
