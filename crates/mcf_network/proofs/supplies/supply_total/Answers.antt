use Rattle.std.proofs.Common.{arith, ap}
use Rattle.std.proofs.lemmas.Int.{ints}
use Rattle.mcf_flows.specs.Network.{IsNode, at_node, node_count}
use Rattle.mcf_flows.proofs.NodeSums.{node_sum_next}
use Rattle.mcf_network.proofs.ArcLaws.{supply_at}
use Rattle.mcf_network.proofs.Totals.{total_small}
use Rattle.mcf_network.proofs.supplies.supply_total.Goals as goal

pub overflow_add-total : goal.overflow_add-total
overflow_add-total c =
    let g = c.args.net.now in
    let ok = c.supply-total.ensures.of_net in
    let node : IsNode (node_count g) c.at.result = omega (arith, c.node_count-number-end.ensures.value) in
    let supply = supply_at g c.at.result ok node in
    let total = total_small g c.loop-number.number ok (omega (arith, node)) in
    omega (arith, ints, c.loop-number.invariant, c.supply-total.ensures.value, supply, total)

pub loop-number-preserved : goal.loop-number-preserved
loop-number-preserved c =
    let g = c.args.net.now in
    let ok = c.supply-total.ensures.of_net in
    let node : IsNode (node_count g) c.at.result = omega (arith, c.node_count-number-end.ensures.value) in
    let supply = supply_at g c.at.result ok node in
    let total = total_small g c.loop-number.number ok (omega (arith, node)) in
    let next = node_sum_next (at_node g.supplies) c.loop-number.number in
    let here = ap (at_node g.supplies) c.at.ensures in
    omega (arith, ints, c.loop-number.invariant, c.supply-total.ensures.value, supply, total, next, here)
