use Rattle.std.proofs.Common.{subst, sym}
use Rattle.mcf_basis.specs.Violations.{HasNoEligible}
use Rattle.mcf_simplex.specs.Following.{FollowingRule}
use Rattle.mcf_simplex.specs.Runs.{RunState}
use Rattle.mcf_simplex.proofs.parts.Run.finish.Goals as goal

pub finish-requires-clause-over : goal.finish-requires-clause-over
finish-requires-clause-over c = subst (λ (s : RunState FollowingRule). HasNoEligible s.basis) (sym c.self.view_is) c.requires.over
