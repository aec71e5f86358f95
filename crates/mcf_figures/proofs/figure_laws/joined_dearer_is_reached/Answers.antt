use Rattle.mcf_figures.proofs.figure_laws.joined_dearer_is_reached.Goals as goal
use Rattle.mcf_figures.proofs.DearerBounds.{joined_dearer_is_reached_lem}

pub returns : goal.returns
returns c = joined_dearer_is_reached_lem
