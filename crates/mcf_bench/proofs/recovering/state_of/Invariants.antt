use Rattle.std.proofs.Common.{◌≡◌}
use Rattle.mcf_bench.proofs.recovering.state_of.Given as goal

abbrev pub invariant-loop-place : goal.invariant-loop-place
invariant-loop-place l = l.state.net ≡ l.fn.net
