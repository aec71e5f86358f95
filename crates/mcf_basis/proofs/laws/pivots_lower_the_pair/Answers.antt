use Rattle.mcf_basis.proofs.PivotKeeps.{pivots_lower_the_pair_lem}
use Rattle.mcf_basis.proofs.laws.pivots_lower_the_pair.Goals as goal

pub returns : goal.returns
returns c = pivots_lower_the_pair_lem
