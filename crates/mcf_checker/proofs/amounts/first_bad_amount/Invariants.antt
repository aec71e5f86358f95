use Rattle.std.proofs.Common.{◌≡◌, ℕ, ◌<◌, true}
use Rattle.mcf_checker.specs.Amounts.{sent_along}
use Rattle.mcf_checker.proofs.BadArcs.{agreement}
use Rattle.mcf_checker.proofs.amounts.first_bad_amount.Given as goal

abbrev pub invariant-loop-place : goal.invariant-loop-place
invariant-loop-place l =
    (j : ℕ) → j < l.place → agreement l.instance.arcs (sent_along l.instance.arcs l.amounts) j ≡ true
