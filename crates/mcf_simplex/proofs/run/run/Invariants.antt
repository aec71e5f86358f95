use Rattle.mcf_basis.specs.Ranks.{rank_above}
use Rattle.mcf_simplex.proofs.Running.{IsUnderWay}
use Rattle.mcf_simplex.proofs.run.run.Given as goal

abbrev pub invariant-pivots : goal.invariant-pivots
invariant-pivots g l = IsUnderWay g.P.Pricing.Picks l.initial.rule l.initial.basis l.rule l.basis

abbrev pub decreases-pivots : goal.decreases-pivots
decreases-pivots g l = rank_above l.basis
