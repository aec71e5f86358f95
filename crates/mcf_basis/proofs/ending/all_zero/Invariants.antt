use Rattle.std.proofs.Common.{◌≡◌, ℕ, ◌<◌, ◌≤◌, get_or, pos}
use Rattle.mcf_basis.proofs.ending.all_zero.Given as goal

abbrev pub invariant-loop-v : goal.invariant-loop-v
invariant-loop-v l = (k : ℕ) → 1 ≤ k → k < l.v → get_or l.numbers k (pos 0) ≡ pos 0
