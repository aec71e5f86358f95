use Rattle.mcf_basis.proofs.PivotKeeps.{pivots_keep_bases_lem}
use Rattle.mcf_basis.proofs.laws.pivots_keep_bases.Goals as goal

pub returns : goal.returns
returns c = pivots_keep_bases_lem
