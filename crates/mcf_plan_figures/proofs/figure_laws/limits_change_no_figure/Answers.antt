use Rattle.mcf_plan_figures.proofs.OwnFigures.{limits_change_no_figure_lem}
use Rattle.mcf_plan_figures.proofs.figure_laws.limits_change_no_figure.Goals as goal

pub returns : goal.returns
returns c = limits_change_no_figure_lem c.planners_are_models.ensures c.limits_change_no_plan.ensures c.plans_fill_no_limit.ensures
