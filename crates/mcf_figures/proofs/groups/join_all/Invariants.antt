use Rattle.std.proofs.Common.{ℕ, ◌<◌}
use Rattle.mcf_figures.specs.Private.Forests.{AreClasses}
use Rattle.mcf_figures.specs.Told.{HasFigures}
use Rattle.mcf_figures.proofs.groups.join_all.Given as goal

abbrev pub invariant-loop-place : goal.invariant-loop-place
invariant-loop-place l = record {
  classes : AreClasses l.prices l.model l.carries l.place l.parents;
  have : (k : ℕ) → k < l.place → HasFigures l.model l.prices l.carries k;
}
