use Rattle.mcf_places.proofs.LimitedPlans.{limits_change_no_plan_lem}
use Rattle.mcf_places.proofs.laws.limits_change_no_plan.Goals as goal

pub returns : goal.returns
returns c = limits_change_no_plan_lem
