use Rattle.std.proofs.Common.{◌≡◌}
use Rattle.mcf_again.proofs.search.Search.meet.Given as goal

abbrev pub invariant-paths : goal.invariant-paths
invariant-paths l = l.state.net ≡ l.fn.state.net
