use Rattle.mcf_planner_ranges.proofs.RangeLaws.{model_ranges_lem}
use Rattle.mcf_planner_ranges.proofs.laws.model_ranges_are_the_planners.Goals as goal

pub returns : goal.returns
returns c =
    model_ranges_lem c.planners_are_models.ensures c.sound_planners_have_sound_models.ensures c.least_model_plans_are_least.ensures c.plans_miss_no_more.ensures
