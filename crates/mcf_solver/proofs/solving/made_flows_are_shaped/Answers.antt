use Rattle.mcf_solver.proofs.Shapes.{shaped}
use Rattle.mcf_solver.proofs.solving.made_flows_are_shaped.Goals as goal

pub returns : goal.returns
returns c =
    shaped c.runs_are_tree_solutions.ensures c.runs_are_tree_solutions-2.ensures c.runs_are_tree_solutions-3.ensures c.runs_are_tree_solutions-4.ensures
    c.restored_tree_solutions_are_tree_solutions.ensures
