use Rattle.mcf_figures.proofs.Forests.{AreNumbered}
use Rattle.mcf_figures.proofs.groups.numbered.Given as goal

abbrev pub invariant-loop-place : goal.invariant-loop-place
invariant-loop-place l = AreNumbered l.parents l.made.items l.place l.count
