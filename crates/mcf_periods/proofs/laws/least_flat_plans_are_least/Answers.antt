use Rattle.mcf_periods.proofs.FlatPlans.{least_flat_plans_are_least_lem}
use Rattle.mcf_periods.proofs.laws.least_flat_plans_are_least.Goals as goal

pub returns : goal.returns
returns c = least_flat_plans_are_least_lem
