use Rattle.std.proofs.Common.{◌≡◌, ℕ, ◌+◌, ◌<◌, false}
use Rattle.mcf_flows.specs.Network.{at_node}
use Rattle.mcf_checker.proofs.BadNodes.{is_unmet}
use Rattle.mcf_checker.proofs.solution.first_unmet.Given as goal

abbrev pub invariant-loop-place : goal.invariant-loop-place
invariant-loop-place l =
    (j : ℕ) → j < l.place → is_unmet (at_node l.nets) l.instance.supplies l.prices (j + 1) ≡ false
