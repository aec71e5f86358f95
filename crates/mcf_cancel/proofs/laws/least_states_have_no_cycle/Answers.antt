use Rattle.mcf_cancel.proofs.Cancelling.{least_no_cycle}
use Rattle.mcf_cancel.proofs.laws.least_states_have_no_cycle.Goals as goal

pub returns : goal.returns
returns c = least_no_cycle
