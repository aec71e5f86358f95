use Rattle.mcf_periods.proofs.FlatAnswers.{flat_answers_lem}
use Rattle.mcf_periods.proofs.laws.flat_answers_are_period_answers.Goals as goal

pub returns : goal.returns
returns c = flat_answers_lem
