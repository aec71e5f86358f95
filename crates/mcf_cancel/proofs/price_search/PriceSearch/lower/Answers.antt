use Rattle.std.proofs.Common.{◌≡◌, ◌-◌, to_z, of_z, ◌<ℤ◌, subst, sym, ap, ◌∙◌}
use mir.Syntax.{w128}
use Rattle.std.proofs.lemmas.Int.{to_z-of_z}
use Rattle.mcf_flows.specs.Network.{Network, at_node}
use Rattle.mcf_network.specs.Residual.{tail}
use Rattle.mcf_network.specs.Walks.{HasRoom}
use Rattle.mcf_cancel.specs.Private.Labels.{Labels, offer}
use Rattle.mcf_cancel.proofs.Lowering.{lowered_ok}
use Rattle.mcf_cancel.proofs.price_search.PriceSearch.lower.Goals as goal

pub invariant_of-self : goal.invariant_of-self
invariant_of-self c =
    let l : Labels = record { flow = c.self.inside.state.now; prices = c.self.inside.prices.items; links = c.self.inside.links.items } in
    let p : to_z w128 (of_z w128 c.args.price) ≡ offer l c.args.r = to_z-of_z w128 c.args.price c.ranges.price ∙ c.requires.price
    ∙ ap (λ (x : Labels). offer x c.args.r) (sym c.self.view_is) in
    let room = subst (λ (x : Labels). HasRoom x.flow c.args.r) (sym c.self.view_is) c.requires.room in
    let less' : offer c.args.self.now c.args.r <ℤ at_node c.args.self.now.prices (tail c.args.self.now.flow.net c.args.r) =
    rw c.requires.price at c.requires.less in
    let less = subst (λ (x : Labels). offer x c.args.r <ℤ at_node x.prices (tail x.flow.net c.args.r)) (sym c.self.view_is) less' in
    let from : c.place.result ≡ tail l.flow.net c.args.r - 1 = c.place.ensures ∙ ap (λ v. v - 1) (c.route-from.ensures.tail
    ∙ ap (λ (g : Network). tail g c.args.r) c.net.ensures.value) in
    let from-2 : c.place-2.result ≡ tail l.flow.net c.args.r - 1 = c.place-2.ensures ∙ ap (λ v. v - 1) (c.route-from.ensures.tail
    ∙ ap (λ (g : Network). tail g c.args.r) c.net.ensures.value) in
    rw (p, from, from-2) (lowered_ok l c.args.r c.self.invariant room less)

pub returns-clause-valid : goal.returns-clause-valid
returns-clause-valid c = invariant_of-self c
