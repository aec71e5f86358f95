use Rattle.mcf_flows.proofs.Hoffman.{blocked_has_no_flow_lem}
use Rattle.mcf_flows.proofs.laws.blocked_has_no_flow.Goals as goal

pub returns : goal.returns
returns c = blocked_has_no_flow_lem
