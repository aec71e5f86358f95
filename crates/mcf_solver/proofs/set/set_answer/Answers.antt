use Rattle.std.proofs.Common.{ℕ, List, ap, subst, sym, ◌∙◌}
use Rattle.mcf_answer.specs.BlockingSet.{IsBlockingSet}
use Rattle.mcf_network.specs.Chosen.{IsChosenBlock}
use Rattle.mcf_flows.specs.Network.{Network, node_count}
use Rattle.mcf_network.proofs.RemovalLaws.{net_of-node_count}
use Rattle.mcf_solver.specs.Answering.{IsNoFlowProof}
use Rattle.mcf_solver.proofs.BlockingNodes.{set_in_range, shows_no_flow}
use Rattle.mcf_solver.proofs.set.set_answer.Goals as goal

pub members-requires : goal.members-requires
members-requires c =
    c.requires.blocks.one_per_node
    ∙ ap node_count c.requires.of_instance
    ∙ net_of-node_count c.args.instance.now
    ∙ sym c.node_count.ensures.value

pub invariant_of-result : goal.invariant_of-result
invariant_of-result c =
    let g = c.args.instance.now in
    let ok = c.node_count.ensures.well_formed in
    let chosen = subst (λ (n : Network). IsChosenBlock n c.args.set.now c.args.side) c.requires.of_instance c.requires.blocks in
    let listed = rw c.node_count.ensures.value at c.in_ok-nodes.ensures in
    subst (λ (nodes : List ℕ). IsBlockingSet (record { side = c.args.side; nodes = nodes })) (sym c.new.ensures)
    (set_in_range g c.args.set.now c.in_ok-nodes.nodes.items c.args.side c.nets_block_alike.ensures ok chosen listed.same listed.are_nodes listed.ascending
    listed.few)

pub returns-clause-proof : goal.returns-clause-proof
returns-clause-proof c =
    let g = c.args.instance.now in
    let ok = c.node_count.ensures.well_formed in
    let chosen = subst (λ (n : Network). IsChosenBlock n c.args.set.now c.args.side) c.requires.of_instance c.requires.blocks in
    let listed = rw c.node_count.ensures.value at c.in_ok-nodes.ensures in
    subst (λ (nodes : List ℕ). IsNoFlowProof g (record { side = c.args.side; nodes = nodes })) (sym c.new.ensures)
    (shows_no_flow g c.args.set.now c.in_ok-nodes.nodes.items c.args.side c.nets_block_alike.ensures ok chosen listed.same listed.are_nodes
    c.blocked_has_no_flow.ensures)
