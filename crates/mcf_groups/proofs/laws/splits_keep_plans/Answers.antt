use Rattle.mcf_groups.proofs.Splits.{splits_keep_plans_lem}
use Rattle.mcf_groups.proofs.laws.splits_keep_plans.Goals as goal

pub returns : goal.returns
returns c = splits_keep_plans_lem
