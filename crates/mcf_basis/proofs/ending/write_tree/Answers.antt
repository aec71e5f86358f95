use Rattle.std.proofs.Common.{ap, arith}
use Rattle.mcf_flows.specs.Network.{IsNode, node_count}
use Rattle.mcf_basis.proofs.Endings.{tree_next}
use Rattle.mcf_basis.proofs.ending.write_tree.Goals as goal

pub loop-i-preserved : goal.loop-i-preserved
loop-i-preserved c =
    let first = c.args.state.now in
    let count = ap node_count c.net-net.ensures.value in
    let node : IsNode (node_count first.net) c.at-v.result = (omega arith, omega (arith, c.at-v.ensures, c.loop-i-test.true, c.node_count-i-end.ensures.value, count)) in
    let written = rw c.net-net.ensures.value at c.write_inside.ensures in
    tree_next first.net c.args.tree.now c.args.residuals.now first c.loop-i.state c.write_inside.new.state
    c.loop-i.i c.at-v.result c.parent_arc.result c.get.result
    c.requires.low c.requires.apart node c.at-v.ensures c.parent_arc.ensures.value c.get.ensures c.loop-i.invariant
    written.net written.flow written.value written.others
