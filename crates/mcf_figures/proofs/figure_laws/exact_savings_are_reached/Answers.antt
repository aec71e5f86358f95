use Rattle.mcf_figures.proofs.figure_laws.exact_savings_are_reached.Goals as goal
use Rattle.mcf_figures.proofs.FigureBounds.{exact_savings_are_reached_lem}

pub returns : goal.returns
returns c = exact_savings_are_reached_lem
