use Rattle.mcf_network.proofs.TreeLaws.{restored_tree_solutions_lem}
use Rattle.mcf_network.proofs.laws.restored_tree_solutions_are_tree_solutions.Goals as goal

pub returns : goal.returns
returns c = restored_tree_solutions_lem
