use Rattle.mcf_network.proofs.RestoringLaws.{net_flows_cost_no_more_lem}
use Rattle.mcf_network.proofs.laws.net_flows_cost_no_more.Goals as goal

pub returns : goal.returns
returns c = net_flows_cost_no_more_lem
