use Rattle.std.proofs.Common.{◌≡◌, ℕ, pos}
use Rattle.mcf_flows.specs.Network.{IsNode}
use Rattle.mcf_network.specs.States.{surplus_at}
use Rattle.mcf_fast_scaling.proofs.judging.has_no_surplus.Given as goal

abbrev pub invariant-nodes : goal.invariant-nodes
invariant-nodes l = (v : ℕ) → IsNode l.number v → surplus_at l.state v ≡ pos 0
