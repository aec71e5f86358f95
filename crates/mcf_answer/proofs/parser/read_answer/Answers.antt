use Rattle.std.proofs.Common.{None, ap, sym, ◌∙◌}
use Rattle.mcf_answer.proofs.LinesRead.{answer_or, outcome}
use Rattle.mcf_answer.proofs.Simulation.{outcome-parsing}
use Rattle.mcf_text.specs.Row.{line_after}
use Rattle.mcf_answer.proofs.parser.read_answer.Goals as goal

pub returns-in-Err-clause-value : goal.returns-in-Err-clause-value
returns-in-Err-clause-value c =
    let text = c.args.text.now in
    ap (λ r. outcome r (line_after text)) (sym c.in-Err.is ∙ c.in_ok-draft.ensures.value) ∙ outcome-parsing text

pub returns-in-Some-clause-value : goal.returns-in-Some-clause-value
returns-in-Some-clause-value c =
    let text = c.args.text.now in
    ap (λ o. answer_or o (line_after text)) c.in-Some.ensures
    ∙ ap (λ r. outcome r (line_after text)) (sym c.in-Ok.is ∙ c.in_ok-draft.ensures.value) ∙ outcome-parsing text

pub returns-in-None-clause-value : goal.returns-in-None-clause-value
returns-in-None-clause-value c =
    let text = c.args.text.now in
    ap (λ n. answer_or None n) c.line_after.ensures
    ∙ ap (λ o. answer_or o (line_after text)) c.in-None.ensures
    ∙ ap (λ r. outcome r (line_after text)) (sym c.in-Ok.is ∙ c.in_ok-draft.ensures.value) ∙ outcome-parsing text
