use Rattle.mcf_places.proofs.LimitedPlans.{plans_fill_no_limit_lem}
use Rattle.mcf_places.proofs.laws.plans_fill_no_limit.Goals as goal

pub returns : goal.returns
returns c = plans_fill_no_limit_lem
