use Rattle.mcf_figures.proofs.figure_laws.prices_are_bounds.Goals as goal
use Rattle.mcf_figures.proofs.FigureBounds.{prices_are_bounds_lem}

pub returns : goal.returns
returns c = prices_are_bounds_lem
