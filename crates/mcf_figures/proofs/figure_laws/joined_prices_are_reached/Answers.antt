use Rattle.mcf_figures.proofs.figure_laws.joined_prices_are_reached.Goals as goal
use Rattle.mcf_figures.proofs.FigureBounds.{joined_prices_are_reached_lem}

pub returns : goal.returns
returns c = joined_prices_are_reached_lem
