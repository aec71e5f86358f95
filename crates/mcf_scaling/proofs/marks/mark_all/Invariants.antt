use Rattle.mcf_scaling.specs.Private.Stars.{AreCapacityMarksUpTo}
use Rattle.mcf_scaling.proofs.marks.mark_all.Given as goal

abbrev pub invariant-arcs : goal.invariant-arcs
invariant-arcs l = AreCapacityMarksUpTo l.fn.state l.fn.star l.has_capacity.items l.number
