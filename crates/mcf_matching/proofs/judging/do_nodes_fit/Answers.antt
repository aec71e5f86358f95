use Rattle.std.proofs.Common.{◌≡◌, ◌+◌, ◌-◌, ◌∙◌, pos, ap, arith, get_or, subst, sym, inl, inr}
use Rattle.std.proofs.lemmas.Bool.{cases_eq}
use Rattle.std.proofs.lemmas.List.{get_or_default}
use Rattle.mcf_flows.specs.Network.{Network, at_node, node_count}
use Rattle.mcf_matching.specs.Private.Updating.{DoesNodeFit}
use Rattle.mcf_matching.proofs.judging.do_nodes_fit.Goals as goal

pub nodes-preserved : goal.nodes-preserved
nodes-preserved c v h =
    let s = c.args.scene.now.state.now in
    let y = c.args.scene.now.prices.now in
    let z = c.args.prices.now in
    let read = c.index-prices-number.is ∙ get_or_default z c.nodes.number _ (pos 0)
    (let inside = c.nodes-test.true in let end = c.node_count-number-end.ensures.value in let same = ap (λ (g : Network). node_count g) c.net.ensures.value in
    let count = c.requires.count in omega (arith, inside, end, same, count)) in
    elim (cases_eq v (c.nodes.number + 1)) [
      | inl e ↦ (
          let back : c.nodes.number ≡ v - 1 = omega (arith, e) in
          subst (λ u. DoesNodeFit s y u (at_node z v)) (c.at.ensures ∙ sym e)
          (subst (λ a. DoesNodeFit s y c.at.result a) (read ∙ ap (λ i. get_or z i (pos 0)) back) (c.does_node_fit.ensures c.if-not-does_node_fit.false)))
      | inr m ↦ c.nodes.invariant v (omega (arith, h), omega (arith, h, m))
    ]

pub returns : goal.returns
returns c _ v h =
    let test = c.nodes-test.false in
    let end = c.node_count-number-end.ensures.value in
    let same = ap (λ (g : Network). node_count g) c.net.ensures.value in
    c.nodes.invariant v (omega (arith, h), omega (arith, h, test, end, same))
