use Rattle.mcf_basis.proofs.TreeFlows.{bases_are_tree_solutions_lem}
use Rattle.mcf_basis.proofs.laws.bases_are_tree_solutions.Goals as goal

pub returns : goal.returns
returns c = bases_are_tree_solutions_lem
