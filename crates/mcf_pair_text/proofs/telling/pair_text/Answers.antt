use Rattle.mcf_pair_tables.specs.PairAnswers.{bytes_in}
use Rattle.mcf_pair_text.proofs.ChoiceTexts.{is_pair_text}
use Rattle.mcf_pair_text.proofs.telling.pair_text.Goals as goal

pub returns : goal.returns
returns g c =
    is_pair_text c.text_of.result (bytes_in c.args.texts) c.args.options c.in_ok-answer.answer c.in_ok-answer.ensures
    c.text_of.ensures.text c.text_of.ensures.kind
