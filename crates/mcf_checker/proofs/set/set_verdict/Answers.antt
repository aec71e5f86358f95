use Rattle.std.proofs.Common.{◌≡◌, ap, sym, ◌∙◌}
use Rattle.std.proofs.lemmas.Bool.{both_ways}
use Rattle.mcf_answer.specs.BlockingSet.{BlockingSet}
use Rattle.mcf_flows.proofs.SameSets.{Blocks-table}
use Rattle.mcf_flows.specs.Network.{node_count}
use Rattle.mcf_checker.proofs.Sets.{at_blocking, at_not_blocking, at_strangers}
use Rattle.mcf_checker.proofs.set.set_verdict.Goals as goal

pub returns-then-not-are_nodes-clause-value : goal.returns-then-not-are_nodes-clause-value
returns-then-not-are_nodes-clause-value c =
    let nodes : c.as_slice-nodes.result.now ≡ c.args.answer.now.nodes = c.as_slice-nodes.ensures ∙ ap (λ (a : BlockingSet). a.nodes) c.answer.view_is in
    let count : c.node_count-count.result ≡ node_count c.args.instance.now = c.node_count-count.ensures.value in
    let test = rw (nodes, count) at c.are_nodes.ensures in
    at_strangers c.args.instance.now c.args.answer.now (sym test ∙ c.if-not-are_nodes.true)

pub returns-then-blocks-clause-value : goal.returns-then-blocks-clause-value
returns-then-blocks-clause-value c =
    let nodes : c.as_slice-nodes.result.now ≡ c.args.answer.now.nodes = c.as_slice-nodes.ensures ∙ ap (λ (a : BlockingSet). a.nodes) c.answer.view_is in
    let count : c.node_count-count.result ≡ node_count c.args.instance.now = c.node_count-count.ensures.value in
    let side : c.answer.inside.side ≡ c.args.answer.now.side = ap (λ (a : BlockingSet). a.side) c.answer.view_is in
    let marks = rw (nodes, count) at c.in_ok-table.ensures.marks in
    let exact = rw (c.deref.ensures.value, side) at c.blocks-2.ensures.exact in
    let same = Blocks-table c.args.instance.now c.in_ok-table.table.items c.args.answer.now.nodes c.args.answer.now.side
    c.node_count-count.ensures.well_formed.ends marks in
    let test = rw (nodes, count) at c.are_nodes.ensures in
    rw nodes (at_blocking c.args.instance.now c.args.answer.now (sym test ∙ c.if-not-are_nodes.false) (same.0 (exact.0 c.if-blocks.true)))

pub returns-clause-value : goal.returns-clause-value
returns-clause-value c =
    let nodes : c.as_slice-nodes.result.now ≡ c.args.answer.now.nodes = c.as_slice-nodes.ensures ∙ ap (λ (a : BlockingSet). a.nodes) c.answer.view_is in
    let count : c.node_count-count.result ≡ node_count c.args.instance.now = c.node_count-count.ensures.value in
    let side : c.answer.inside.side ≡ c.args.answer.now.side = ap (λ (a : BlockingSet). a.side) c.answer.view_is in
    let marks = rw (nodes, count) at c.in_ok-table.ensures.marks in
    let exact = rw (c.deref.ensures.value, side) at c.blocks-2.ensures.exact in
    let same = Blocks-table c.args.instance.now c.in_ok-table.table.items c.args.answer.now.nodes c.args.answer.now.side
    c.node_count-count.ensures.well_formed.ends marks in
    at_not_blocking c.args.instance.now c.args.answer.now (λ h. both_ways c.blocks-2.result c.if-blocks.false (exact.1 (same.1 h)))
