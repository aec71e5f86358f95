use Rattle.std.proofs.Common.{◌≡◌}
use Rattle.mcf_again.proofs.search.Search.push_path.Given as goal

abbrev pub invariant-path : goal.invariant-path
invariant-path l = l.state.net ≡ l.fn.state.net
