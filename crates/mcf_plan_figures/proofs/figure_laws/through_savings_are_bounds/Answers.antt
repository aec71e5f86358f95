use Rattle.mcf_plan_figures.proofs.ThroughRooms.{through_savings_are_bounds_lem}
use Rattle.mcf_plan_figures.proofs.figure_laws.through_savings_are_bounds.Goals as goal

pub returns : goal.returns
returns c = through_savings_are_bounds_lem c.planners_are_models.ensures c.sound_planners_have_sound_models.ensures c.savings_are_bounds.ensures
