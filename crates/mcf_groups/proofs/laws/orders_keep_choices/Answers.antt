use Rattle.mcf_groups.proofs.Orderings.{orders_keep}
use Rattle.mcf_groups.proofs.laws.orders_keep_choices.Goals as goal

pub returns : goal.returns
returns c = orders_keep
