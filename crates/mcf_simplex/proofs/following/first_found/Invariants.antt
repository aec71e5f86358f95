use Rattle.std.proofs.Common.{◌-◌}
use Rattle.mcf_simplex.proofs.Pieces.{IsPassedTo}
use Rattle.mcf_simplex.proofs.following.first_found.Given as goal

abbrev pub invariant-pieces : goal.invariant-pieces
invariant-pieces l = IsPassedTo l.basis l.stretch l.piece l.from l.until l.begin

abbrev pub decreases-pieces : goal.decreases-pieces
decreases-pieces l = l.until - l.begin
