use Rattle.mcf_pair_tables.specs.GroupAnswers.{bytes_in}
use Rattle.mcf_pair_text.proofs.GroupChoiceTexts.{is_group_text}
use Rattle.mcf_pair_text.proofs.group_telling.group_text.Goals as goal

pub returns : goal.returns
returns g c =
    is_group_text c.text_of.result (bytes_in c.args.texts) (record { options = c.args.options; crossing = c.args.crossing }) c.in_ok-answer.answer
    c.in_ok-answer.ensures c.text_of.ensures.text c.text_of.ensures.kind
