use Rattle.mcf_basis.proofs.RankLaws.{ranks_fall_lem}
use Rattle.mcf_basis.proofs.laws.ranks_fall.Goals as goal

pub returns : goal.returns
returns c = ranks_fall_lem
