-- What the supplies of a network and of its net sum to.
use Rattle.std.proofs.Common.{◌≡◌, ap, arith, map}
use Rattle.std.specs.List.{All, range_with_len}
use Rattle.std.proofs.lemmas.Int.{ints}
use Rattle.std.proofs.lemmas.List.FromFn.{length-map-range_with_len}
use Rattle.mcf_network.specs.Chosen.{supply_total}
use Rattle.mcf_flows.specs.Flow.{net}
use Rattle.mcf_flows.specs.Network.{Network, at_node, node_count, node_sum}
use Rattle.mcf_flows.specs.WellFormed.{HasEnds}
use Rattle.mcf_flows.proofs.NodeSums.{nets_cancel, node_sum-same, node_sum-sub}
use Rattle.mcf_network.specs.Removal.{lows, net_of, supply_left}
use Rattle.mcf_network.proofs.RemovalLaws.{net_supply}

-- the net moves supplies from node to node, and so keeps their sum
pub supply_total-net_of : (g : Network) → All (HasEnds (node_count g)) g.arcs → supply_total (net_of g) ≡ supply_total g
unfolding net_of
supply_total-net_of g ends =
    let supplies = map (supply_left g) (range_with_len 1 (node_count g)) in
    let count = ap (node_sum (at_node supplies)) (length-map-range_with_len (supply_left g) 1 (node_count g)) in
    let each = node_sum-same (at_node supplies) (supply_left g) (node_count g) (λ v h. net_supply g v h) in
    let parts = node_sum-sub (at_node g.supplies) (net g.arcs (lows g.arcs)) (node_count g) in
    omega (arith, ints, count, each, parts, nets_cancel (node_count g) g.arcs (lows g.arcs) ends)
