use Rattle.mcf_plan_figures.proofs.Units.{units_cost_no_less_lem}
use Rattle.mcf_plan_figures.proofs.figure_laws.units_cost_no_less.Goals as goal

pub returns : goal.returns
returns c = units_cost_no_less_lem c.planners_are_models.ensures c.sound_planners_have_sound_models.ensures c.prices_are_bounds.ensures
