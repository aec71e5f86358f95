use Rattle.std.proofs.Common.{◌≡◌, arith, false, rules, sym}
use Rattle.std.proofs.lemmas.List.{length-replicate}
use Rattle.mcf_flows.specs.Network.{node_count}
use Rattle.mcf_network.specs.NodeSets.{no_nodes}
use Rattle.mcf_network.proofs.Marks.{count_none}
use Rattle.mcf_network.proofs.node_set.NodeSet.new.Goals as goal

pub invariant_of-result : goal.invariant_of-result
invariant_of-result c =
    let n = node_count c.args.net.now in
    let none : c.in_ok-marks.marks.items ≡ no_nodes n = search rules in
    rw none (omega (arith, length-replicate n false, c.node_count.ensures.of_net.nodes), sym (count_none n))

pub returns-clause-value : goal.returns-clause-value
returns-clause-value c = search rules
