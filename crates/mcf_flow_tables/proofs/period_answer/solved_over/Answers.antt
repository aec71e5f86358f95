use Rattle.std.proofs.Common.{subst}
use Rattle.mcf_period_units.specs.Made.{IsMadeOver}
use Rattle.mcf_period_units.specs.PeriodEntries.{entries_over}
use Rattle.mcf_flow_tables.proofs.OverPeriods.{solved_periods}
use Rattle.mcf_flow_tables.proofs.period_answer.solved_over.Goals as goal

pub returns-in_ok-answer-in-Problem : goal.returns-in_ok-answer-in-Problem
returns-in_ok-answer-in-Problem g c =
    let E = entries_over c.args.tables.now c.args.times.now in
    let terms = c.args.terms in
    solved_periods E terms c.in-Problem.made c.mark.result c.in_ok-answer-in-Problem.answer c.origin_in-origin.result c.flat_answers_are_period_answers.ensures
    (subst (λ m. IsMadeOver E terms m) c.in-Problem.is c.in_ok-made.ensures) c.in_ok-answer-in-Problem.ensures c.mark.ensures c.origin_in-origin.ensures
