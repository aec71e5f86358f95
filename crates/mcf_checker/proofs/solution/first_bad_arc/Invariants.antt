use Rattle.std.proofs.Common.{◌≡◌, ℕ, ◌<◌, true}
use Rattle.mcf_checker.proofs.BadArcs.{agreement}
use Rattle.mcf_checker.proofs.solution.first_bad_arc.Given as goal

abbrev pub invariant-loop-place : goal.invariant-loop-place
invariant-loop-place l = (j : ℕ) → j < l.place → agreement l.instance.arcs l.sent j ≡ true
