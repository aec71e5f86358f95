use Rattle.mcf_figures.proofs.figure_laws.dearer_is_a_bound.Goals as goal
use Rattle.mcf_figures.proofs.DearerBounds.{dearer_is_a_bound_lem}

pub returns : goal.returns
returns c = dearer_is_a_bound_lem
