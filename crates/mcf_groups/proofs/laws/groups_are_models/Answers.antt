use Rattle.mcf_groups.proofs.GroupPlans.{groups_are_models_lem}
use Rattle.mcf_groups.proofs.laws.groups_are_models.Goals as goal

pub returns : goal.returns
returns c = groups_are_models_lem
