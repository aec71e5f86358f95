use Rattle.mcf_figures.proofs.figure_laws.savings_are_bounds.Goals as goal
use Rattle.mcf_figures.proofs.FigureBounds.{savings_are_bounds_lem}

pub returns : goal.returns
returns c = savings_are_bounds_lem
