use Rattle.std.proofs.Common.{◌≡◌, ℕ, ◌+◌, ◌<◌, pos}
use Rattle.mcf_network.specs.States.{surplus_at}
use Rattle.mcf_net_tests.proofs.networks.is_balanced.Given as goal

abbrev pub invariant-loop-v : goal.invariant-loop-v
invariant-loop-v l = (k : ℕ) → k < l.v → surplus_at l.state (k + 1) ≡ pos 0
