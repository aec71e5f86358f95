use Rattle.mcf_network.proofs.StuckLaws.{stuck_sets_block_lem}
use Rattle.mcf_network.proofs.laws.stuck_sets_block.Goals as goal

pub returns : goal.returns
returns c = stuck_sets_block_lem
