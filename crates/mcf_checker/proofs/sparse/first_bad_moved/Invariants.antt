use Rattle.std.proofs.Common.{ℕ, ◌<◌}
use Rattle.mcf_checker.proofs.SparseFlows.{AllAgreeBefore}
use Rattle.mcf_checker.proofs.sparse.first_bad_moved.Given as goal

abbrev pub invariant-loop-place : goal.invariant-loop-place
invariant-loop-place l = (j : ℕ) → j < l.place → AllAgreeBefore l.instance.arcs l.moved j
