use Rattle.mcf_simplex.proofs.RunLaws.{runs_are_tree_solutions_lem}
use Rattle.mcf_simplex.proofs.laws.runs_are_tree_solutions.Goals as goal

pub returns : goal.returns
returns g c = runs_are_tree_solutions_lem g.P.Pricing.Picks
