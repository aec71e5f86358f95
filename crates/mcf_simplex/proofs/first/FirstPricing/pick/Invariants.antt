use Rattle.std.proofs.Common.{◌+◌}
use Rattle.mcf_simplex.proofs.Firsts.{HasNoneBelow}
use Rattle.mcf_simplex.proofs.first.FirstPricing.pick.Given as goal

abbrev pub invariant-loop-place : goal.invariant-loop-place
invariant-loop-place l = HasNoneBelow l.basis (l.place + 1)
