use Rattle.mcf_planner_ranges.proofs.RangeLaws.{limits_change_no_range_lem}
use Rattle.mcf_planner_ranges.proofs.laws.limits_change_no_range.Goals as goal

pub returns : goal.returns
returns c = limits_change_no_range_lem c.limits_change_no_plan.ensures
