use Rattle.mcf_places.proofs.LeastPlans.{least_model_plans_are_least_lem}
use Rattle.mcf_places.proofs.laws.least_model_plans_are_least.Goals as goal

pub returns : goal.returns
returns c = least_model_plans_are_least_lem
