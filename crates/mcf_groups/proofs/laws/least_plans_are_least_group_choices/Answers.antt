use Rattle.mcf_groups.proofs.GroupPlans.{least_plans_are_least_lem}
use Rattle.mcf_groups.proofs.laws.least_plans_are_least_group_choices.Goals as goal

pub returns : goal.returns
returns c = least_plans_are_least_lem
