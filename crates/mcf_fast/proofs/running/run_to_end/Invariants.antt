use Rattle.mcf_basis.specs.Ranks.{rank_above}
use Rattle.mcf_fast.proofs.Watched.{IsRunOf}
use Rattle.mcf_fast.proofs.running.run_to_end.Given as goal

abbrev pub invariant-rounds : goal.invariant-rounds
invariant-rounds l = IsRunOf l.net l.run

abbrev pub decreases-rounds : goal.decreases-rounds
decreases-rounds l = rank_above l.run.basis
