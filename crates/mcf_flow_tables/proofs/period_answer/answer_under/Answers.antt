use Rattle.std.proofs.Common.{◌∙◌, sym, subst}
use Rattle.mcf_period_reading.specs.PeriodReading.{IsReadOf}
use Rattle.mcf_flow_tables.proofs.OverPeriods.{answer_under}
use Rattle.mcf_flow_tables.proofs.period_answer.answer_under.Goals as goal

pub returns-in-Ok-Ok : goal.returns-in-Ok-Ok
returns-in-Ok-Ok g c =
    let mark = c.args.mark in
    let places = c.args.places.now in
    let routes = c.args.routes.now in
    answer_under mark places routes c.args.terms c.in-Ok-Ok.tables c.in-Ok-Ok.times (sym c.in_ok-read.ensures ∙ c.in-Ok-Ok.is-0)
    (subst (λ r. IsReadOf mark places routes r) c.in-Ok-Ok.is-1 c.in_ok-times.ensures) c.solved_over.result c.solved_over.ensures
