use Rattle.mcf_basis.proofs.RankDepths.{ranks_count_down_lem}
use Rattle.mcf_basis.proofs.laws.ranks_count_down.Goals as goal

pub returns : goal.returns
returns c = ranks_count_down_lem
