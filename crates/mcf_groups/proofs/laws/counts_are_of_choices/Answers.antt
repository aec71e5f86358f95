use Rattle.mcf_groups.proofs.Tallies.{counts_are}
use Rattle.mcf_groups.proofs.laws.counts_are_of_choices.Goals as goal

pub returns : goal.returns
returns c = counts_are
