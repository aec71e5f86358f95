use Rattle.std.proofs.Common.{refl}
use Rattle.mcf_answer.specs.Parsing.{parsing}
use Rattle.mcf_answer.proofs.Parsed.{exact}
use Rattle.mcf_checker.proofs.Judges.{accepts-exactly}
use Rattle.mcf_checker.proofs.laws.correct_answers_are_accepted.Goals as goal

pub returns : goal.returns
returns c = λ input text. accepts-exactly input text (exact text (parsing text) refl)
