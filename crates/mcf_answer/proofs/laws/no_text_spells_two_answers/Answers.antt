use Rattle.mcf_answer.proofs.Parsed.{one_answer}
use Rattle.mcf_answer.proofs.laws.no_text_spells_two_answers.Goals as goal

pub returns : goal.returns
returns c = one_answer
