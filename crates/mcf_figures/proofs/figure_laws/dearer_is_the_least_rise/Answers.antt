use Rattle.mcf_figures.proofs.figure_laws.dearer_is_the_least_rise.Goals as goal
use Rattle.mcf_figures.proofs.NextUnits.{dearer_is_the_least_rise_lem}

pub returns : goal.returns
returns c = dearer_is_the_least_rise_lem
