use Rattle.mcf_feas.specs.Private.Pushing.{IsPushedOn}
use Rattle.mcf_feas.proofs.preflow.visit_all.Given as goal

abbrev pub invariant-visits : goal.invariant-visits
invariant-visits l = IsPushedOn l.initial.state l.state
