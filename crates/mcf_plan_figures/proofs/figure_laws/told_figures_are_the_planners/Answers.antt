use Rattle.mcf_plan_figures.proofs.ToldLaws.{told_figures_are_the_planners_lem}
use Rattle.mcf_plan_figures.proofs.figure_laws.told_figures_are_the_planners.Goals as goal

pub returns : goal.returns
returns c = told_figures_are_the_planners_lem c.planners_are_models.ensures
