use Rattle.mcf_basis.proofs.Cuts.{last_bases_are_feasible_lem}
use Rattle.mcf_basis.proofs.laws.last_bases_are_feasible.Goals as goal

pub returns : goal.returns
returns c = last_bases_are_feasible_lem
