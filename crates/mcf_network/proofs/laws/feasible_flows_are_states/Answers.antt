use Rattle.mcf_network.proofs.StuckLaws.{feasible_flows_are_states_lem}
use Rattle.mcf_network.proofs.laws.feasible_flows_are_states.Goals as goal

pub returns : goal.returns
returns c = feasible_flows_are_states_lem
