use Rattle.mcf_plan_figures.proofs.DearerPlans.{through_dearer_is_a_bound_lem}
use Rattle.mcf_plan_figures.proofs.figure_laws.through_dearer_is_a_bound.Goals as goal

pub returns : goal.returns
returns c = through_dearer_is_a_bound_lem c.planners_are_models.ensures c.sound_planners_have_sound_models.ensures c.dearer_is_a_bound.ensures
