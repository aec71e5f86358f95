-- Sums of the supplies of the first nodes.
use Rattle.std.proofs.Common.{ℕ, ◌^◌, ◌≤◌, arith}
use Rattle.std.proofs.lemmas.Int.{ints}
use Rattle.mcf_flows.specs.Network.{Network, at_node, node_count, node_sum}
use Rattle.mcf_flows.specs.WellFormed.{IsUpTo}
use Rattle.mcf_flows.proofs.Bounds.{node_sum_up_to}
use Rattle.mcf_network.specs.Nets.{IsNet, supply_limit}
use Rattle.mcf_network.proofs.ArcLaws.{supply_at}

pub total_small : (g : Network) (k : ℕ) → IsNet g → k ≤ node_count g → IsUpTo (10 ^ 32) (node_sum (at_node g.supplies) k)
total_small g k ok h =
    let sum = node_sum_up_to (at_node g.supplies) supply_limit k (λ v q. supply_at g v ok (omega arith)) in
    let n = ok.nodes in
    omega (arith, ints, sum, n)
