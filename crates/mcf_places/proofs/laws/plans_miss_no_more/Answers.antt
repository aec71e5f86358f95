use Rattle.mcf_places.proofs.LeastPlans.{misses_no_more}
use Rattle.mcf_places.proofs.laws.plans_miss_no_more.Goals as goal

pub returns : goal.returns
returns c = misses_no_more
