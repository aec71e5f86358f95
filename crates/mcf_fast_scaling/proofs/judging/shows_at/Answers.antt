use Rattle.std.proofs.Common.{◌≡◌, ◌∙◌, ap, rules, to_z, of_z}
use mir.Syntax.{w128}
use Rattle.std.proofs.lemmas.Int.{to_z-of_z}
use Rattle.mcf_flows.specs.Flow.{reduced_cost}
use Rattle.mcf_flows.specs.Network.{Network}
use Rattle.mcf_network.specs.Residual.{arc_at}
use Rattle.mcf_network.specs.States.{amount_at}
use Rattle.mcf_network.proofs.ArcLaws.{net_arc_at}
use Rattle.mcf_fast_scaling.proofs.Judged.{complementary}
use Rattle.mcf_fast_scaling.proofs.judging.shows_at.Goals as goal

pub returns : goal.returns
returns c right =
    let net = c.net-net.ensures.value in
    let reduced : to_z w128 (of_z w128 c.reduced_of-reduced.result) ≡ c.reduced_of-reduced.result = search (rules, to_z-of_z) in
    let amount : to_z w128 (of_z w128 c.amount.result) ≡ c.amount.result = search (rules, to_z-of_z) in
    let width : to_z w128 (of_z w128 c.width.result) ≡ c.width.result = search (rules, to_z-of_z) in
    complementary c.args.prices.now (arc_at c.args.state.now.net c.args.k) (amount_at c.args.state.now c.args.k) _ _ _
    (net_arc_at c.args.state.now.net c.args.k c.net-net.ensures.valid.of_net c.requires.arc)
    (reduced ∙ c.reduced_of-reduced.ensures ∙ ap (λ (g : Network). reduced_cost c.args.prices.now (arc_at g c.args.k)) net)
    (amount ∙ c.amount.ensures.value) (width ∙ c.width.ensures.value ∙ ap (λ (g : Network). (arc_at g c.args.k).cap) net)
    (c.is_complementary.ensures.above right) (c.is_complementary.ensures.below right)
