use Rattle.mcf_instance.proofs.WiderLimits.{former_instances_stay_lem}
use Rattle.mcf_instance.proofs.laws.former_instances_stay.Goals as goal

pub returns : goal.returns
returns c = former_instances_stay_lem
