use Rattle.mcf_network.specs.States.{IsFeasibleState}
use Rattle.mcf_cancel.proofs.Cancelling.{cost_height}
use Rattle.mcf_cancel.proofs.cancel.cancel_cycles.Given as goal

abbrev pub invariant-cycles : goal.invariant-cycles
invariant-cycles l = IsFeasibleState l.fn.state.net l.state

abbrev pub decreases-cycles : goal.decreases-cycles
decreases-cycles l = cost_height l.state
