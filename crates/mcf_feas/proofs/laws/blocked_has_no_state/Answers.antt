use Rattle.mcf_feas.proofs.Answered.{blocked_has_no_state_lem}
use Rattle.mcf_feas.proofs.laws.blocked_has_no_state.Goals as goal

pub returns : goal.returns
returns c = blocked_has_no_state_lem
