use Rattle.std.proofs.Common.{◌-◌}
use Rattle.mcf_simplex.proofs.Pieces.{IsPickedBefore}
use Rattle.mcf_simplex.proofs.following.most_violated_in_block.Given as goal

abbrev pub invariant-stretches : goal.invariant-stretches
invariant-stretches l = IsPickedBefore l.basis l.stretch l.begin l.end l.behind l.best

abbrev pub decreases-stretches : goal.decreases-stretches
decreases-stretches l = l.arcs - l.behind
