use Rattle.std.proofs.Common.{◌≡◌}
use Rattle.mcf_again.proofs.mending.meet_all.Given as goal

abbrev pub invariant-nodes : goal.invariant-nodes
invariant-nodes l = l.state.net ≡ l.fn.state.net
