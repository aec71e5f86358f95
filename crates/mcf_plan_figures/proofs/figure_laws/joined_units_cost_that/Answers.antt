use Rattle.mcf_plan_figures.proofs.Units.{joined_units_cost_that_lem}
use Rattle.mcf_plan_figures.proofs.figure_laws.joined_units_cost_that.Goals as goal

pub returns : goal.returns
returns c = joined_units_cost_that_lem c.planners_are_models.ensures c.sound_planners_have_sound_models.ensures c.joined_prices_are_reached.ensures
