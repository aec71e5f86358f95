use Rattle.mcf_places.proofs.PlannerCuts.{planner_bottlenecks_have_no_plan_lem}
use Rattle.mcf_places.proofs.laws.planner_bottlenecks_have_no_plan.Goals as goal

pub returns : goal.returns
returns c = planner_bottlenecks_have_no_plan_lem c.bottlenecks_have_no_plan.ensures
