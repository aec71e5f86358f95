use Rattle.mcf_table.proofs.Unambiguous.{unambiguous}
use Rattle.mcf_table.proofs.laws.texts_are_unambiguous.Goals as goal

pub returns : goal.returns
returns c = unambiguous
