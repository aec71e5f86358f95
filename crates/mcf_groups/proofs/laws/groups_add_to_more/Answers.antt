use Rattle.mcf_groups.proofs.MoreTold.{add_to_more}
use Rattle.mcf_groups.proofs.laws.groups_add_to_more.Goals as goal

pub returns : goal.returns
returns c = add_to_more
