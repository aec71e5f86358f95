use Rattle.std.proofs.Common.{ℕ, ◌-◌, ◌<◌}
use Rattle.mcf_basis.specs.Pivots.{IsEligible}
use Rattle.mcf_engine_tests.proofs.simplex.GreatestPricing.pick.Given as goal

-- none of the arcs behind the place, from the last one on, is eligible
abbrev pub invariant-loop-place : goal.invariant-loop-place
invariant-loop-place l = (j : ℕ) → l.arcs - l.place < j → ¬ IsEligible l.basis j
