use Rattle.mcf_flow_tables.specs.TableAnswers.{bytes_in}
use Rattle.mcf_plan_text.proofs.TableTexts.{is_plan_text}
use Rattle.mcf_plan_text.proofs.telling.plan_text.Goals as goal

pub returns : goal.returns
returns g c =
    is_plan_text c.answer_text.result (bytes_in c.args.texts) c.args.options c.in_ok-answer.answer c.in_ok-answer.ensures
    c.answer_text.ensures.text c.answer_text.ensures.kind
