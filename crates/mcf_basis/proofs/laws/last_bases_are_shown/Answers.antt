use Rattle.mcf_basis.proofs.LastBases.{last_bases_are_shown_lem}
use Rattle.mcf_basis.proofs.laws.last_bases_are_shown.Goals as goal

pub returns : goal.returns
returns c = last_bases_are_shown_lem
