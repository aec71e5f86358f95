use Rattle.mcf_feas.proofs.Answered.{answers_are_exact_lem}
use Rattle.mcf_feas.proofs.laws.answers_are_exact.Goals as goal

pub returns : goal.returns
returns c = answers_are_exact_lem
