use Rattle.mcf_groups.proofs.CutGroups.{crossings_are_cut_lem}
use Rattle.mcf_groups.proofs.laws.crossings_are_cut.Goals as goal

pub returns : goal.returns
returns c = crossings_are_cut_lem
