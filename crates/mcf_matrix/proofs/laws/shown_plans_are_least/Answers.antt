use Rattle.mcf_matrix.proofs.PlanDuality.{shown_plans_are_least_lem}
use Rattle.mcf_matrix.proofs.laws.shown_plans_are_least.Goals as goal

pub returns : goal.returns
returns c = shown_plans_are_least_lem
