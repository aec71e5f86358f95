use Rattle.mcf_network.proofs.RestoringLaws.{restored_least_flows_are_least_lem}
use Rattle.mcf_network.proofs.laws.restored_least_flows_are_least.Goals as goal

pub returns : goal.returns
returns c = restored_least_flows_are_least_lem
