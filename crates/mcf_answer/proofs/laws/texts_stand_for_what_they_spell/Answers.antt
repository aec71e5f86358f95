use Rattle.mcf_answer.proofs.Accepts.{spelled_parses}
use Rattle.mcf_answer.proofs.Spelled.{parsed_spells}
use Rattle.mcf_answer.proofs.laws.texts_stand_for_what_they_spell.Goals as goal

pub returns : goal.returns
returns c = λ text a. (parsed_spells text a, spelled_parses text a)
