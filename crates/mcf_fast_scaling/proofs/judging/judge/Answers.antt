use Rattle.std.proofs.Common.{subst}
use Rattle.mcf_flows.specs.Network.{Network}
use Rattle.mcf_engine.specs.Outcomes.{IsLeastState}
use Rattle.mcf_fast_scaling.proofs.judging.judge.Goals as goal

pub returns-clause-least : goal.returns-clause-least
returns-clause-least c right =
    subst (λ (g : Network). IsLeastState g c.carry_all.new.state) c.carry_all.ensures.net (c.is_shown.ensures.least right)
