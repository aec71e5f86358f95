use Rattle.mcf_groups.proofs.Orderings.{orders_all}
use Rattle.mcf_groups.proofs.laws.orders_have_all.Goals as goal

pub returns : goal.returns
returns c = orders_all
