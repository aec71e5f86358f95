use Rattle.mcf_periods.proofs.FlatPlans.{period_plans_are_flat_lem}
use Rattle.mcf_periods.proofs.laws.period_plans_are_flat.Goals as goal

pub returns : goal.returns
returns c = period_plans_are_flat_lem
