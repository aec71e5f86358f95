use Rattle.mcf_flows.proofs.Duality.{shown_flows_are_least_lem}
use Rattle.mcf_flows.proofs.laws.shown_flows_are_least.Goals as goal

pub returns : goal.returns
returns c = shown_flows_are_least_lem
