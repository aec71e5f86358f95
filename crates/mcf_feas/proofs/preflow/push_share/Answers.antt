use Rattle.std.proofs.Common.{◌≡◌, ap, arith, ◌∙◌, to_z, of_z, rules}
use mir.Syntax.{w128}
use Rattle.std.proofs.lemmas.Int.{ints, to_z-of_z}
use Rattle.mcf_flows.specs.Network.{Network}
use Rattle.mcf_network.specs.Residual.{tail, head}
use Rattle.mcf_network.specs.States.{Pseudoflow, surplus_at}
use Rattle.mcf_network.proofs.ArcLaws.{head_is_node, tail_is_node}
use Rattle.mcf_network.proofs.StateLaws.{rid}
use Rattle.mcf_feas.proofs.Excess.{pushed_one}
use Rattle.mcf_feas.proofs.preflow.push_share.Goals as goal

pub share-amount-requires-clause-some : goal.share-amount-requires-clause-some
share-amount-requires-clause-some c =
    let s = c.args.state.now in
    let r = rid c.args.arc c.args.back in
    let from : c.route-from.result.0 ≡ tail s.net r = c.route-from.ensures.tail ∙ ap (λ (g : Network). tail g r) c.net.ensures.value in
    omega (arith, ints, c.surplus.ensures.value, c.surplus.ensures.small, ap (surplus_at s) from, c.if-surplus-le0.false)

pub returns : goal.returns
returns c =
    let s = c.args.state.now in
    let r = rid c.args.arc c.args.back in
    let ok = c.net.ensures.valid in
    let same : to_z w128 (of_z w128 c.share-amount.result) ≡ c.share-amount.result = search (rules, to_z-of_z) in
    let net = ap (λ (t : Pseudoflow). t.net) c.push.ensures.value in
    let moves = rw same at c.push.ensures.surpluses in
    let from = tail_is_node s.net c.args.arc c.args.back ok.of_net c.requires.arc in
    let to = head_is_node s.net c.args.arc c.args.back ok.of_net c.requires.arc in
    let share = c.share-amount.ensures in
    pushed_one s c.push.new.self (tail s.net r) (head s.net r) c.share-amount.result net c.push.ensures.valid moves from to share.low share.held
