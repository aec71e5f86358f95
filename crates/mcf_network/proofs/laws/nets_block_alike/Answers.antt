use Rattle.mcf_network.proofs.RestoringLaws.{nets_block_alike_lem}
use Rattle.mcf_network.proofs.laws.nets_block_alike.Goals as goal

pub returns : goal.returns
returns c = nets_block_alike_lem
