use Rattle.mcf_engine.proofs.NearLaws.{shown_near}
use Rattle.mcf_fast_scaling.proofs.Judged.{least_judged}
use Rattle.mcf_fast_scaling.proofs.judging.is_shown.Goals as goal

pub returns-then-has_no_surplus-clause-least : goal.returns-then-has_no_surplus-clause-least
returns-then-has_no_surplus-clause-least c right =
    least_judged c.args.state.now c.args.prices.now c.has_no_surplus.ensures.valid (c.has_no_surplus.ensures.none c.if-has_no_surplus.true) (c.shows.ensures right)

pub returns-then-has_no_surplus-clause-near : goal.returns-then-has_no_surplus-clause-near
returns-then-has_no_surplus-clause-near c right =
    shown_near c.args.state.now c.args.prices.now c.has_no_surplus.ensures.valid c.requires.count c.requires.small (c.shows.ensures right)
