use Rattle.mcf_plan_figures.proofs.DearerPlans.{joined_through_dearer_is_reached_lem}
use Rattle.mcf_plan_figures.proofs.figure_laws.joined_through_dearer_is_reached.Goals as goal

pub returns : goal.returns
returns c = joined_through_dearer_is_reached_lem c.planners_are_models.ensures c.sound_planners_have_sound_models.ensures c.joined_dearer_is_reached.ensures
