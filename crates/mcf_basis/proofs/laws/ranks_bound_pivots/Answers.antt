use Rattle.mcf_basis.proofs.RankLaws.{ranks_bound_pivots_lem}
use Rattle.mcf_basis.proofs.laws.ranks_bound_pivots.Goals as goal

pub returns : goal.returns
returns c = ranks_bound_pivots_lem
