use Rattle.std.proofs.Common.{subst}
use Rattle.mcf_simplex.specs.Following.{FollowingRule, IsFollowingPick}
use Rattle.mcf_simplex.specs.Runs.{IsAdvanced, RunState}
use Rattle.mcf_simplex.proofs.parts.Run.advance.Goals as goal

pub returns-clause-run : goal.returns-clause-run
returns-clause-run c =
    subst (λ (old : RunState FollowingRule). IsAdvanced IsFollowingPick old c.args.pivots c.advance.result
    (record { rule = c.advance.new.rule; basis = c.advance.new.basis })) c.self.view_is c.advance.ensures.run
