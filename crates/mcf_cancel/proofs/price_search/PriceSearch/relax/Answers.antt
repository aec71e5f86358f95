use Rattle.std.proofs.Common.{◌≡◌, ◌-◌, arith, ap, refl, rules, subst, ◌∙◌, to_z, of_z}
use mir.Syntax.{w128}
use Rattle.std.proofs.lemmas.Int.{ints, to_z-of_z}
use Rattle.mcf_flows.specs.Network.{Network}
use Rattle.mcf_network.specs.Residual.{tail}
use Rattle.mcf_network.specs.States.{room_of}
use Rattle.mcf_network.proofs.ArcLaws.{tail_is_node}
use Rattle.mcf_cancel.specs.Private.Labels.{Labels, IsLabelling}
use Rattle.mcf_cancel.proofs.Offers.{read_price}
use Rattle.mcf_cancel.proofs.price_search.PriceSearch.relax.Goals as goal

pub returns-then-room-le0-clause-relaxed : goal.returns-then-room-le0-clause-relaxed
returns-then-room-le0-clause-relaxed c =
    let room = c.room.ensures.value ∙ ap (λ (x : Labels). room_of x.flow c.args.r) c.self.view_is in
    let none = c.if-room-le0.true in
    record { same = refl; respects = λ h. let some = h.room in absurd (omega (arith, ints, room, none, some)) }

pub returns-then-index-price-clause-relaxed : goal.returns-then-index-price-clause-relaxed
returns-then-index-price-clause-relaxed c =
    let l : Labels = record { flow = c.self.inside.state.now; prices = c.self.inside.prices.items; links = c.self.inside.links.items } in
    let from : c.place.result ≡ tail c.args.self.now.flow.net c.args.r - 1 = c.place.ensures ∙ ap (λ v. v - 1) (c.route-from.ensures.tail
    ∙ ap (λ (g : Network). tail g c.args.r) (c.net.ensures.value ∙ ap (λ (x : Labels). x.flow.net) c.self.view_is)) in
    let ok = subst IsLabelling c.self.view_is c.self.invariant in
    let node = tail_is_node c.args.self.now.flow.net c.args.r.arc c.args.r.back ok.flow.of_net c.requires.arc in
    let price = read_price l c.args.self.now c.place.result _ c.index.result.now c.self.view_is c.self.invariant node from c.index.ensures in
    let offer = c.offer-price.ensures in
    let le = c.if-index-price.true in
    record { same = refl; respects = λ h. omega (arith, ints, price, offer, le) }

pub lower-requires-clause-less : goal.lower-requires-clause-less
lower-requires-clause-less c =
    let l : Labels = record { flow = c.self.inside.state.now; prices = c.self.inside.prices.items; links = c.self.inside.links.items } in
    let from : c.place.result ≡ tail c.args.self.now.flow.net c.args.r - 1 = c.place.ensures ∙ ap (λ v. v - 1) (c.route-from.ensures.tail
    ∙ ap (λ (g : Network). tail g c.args.r) (c.net.ensures.value ∙ ap (λ (x : Labels). x.flow.net) c.self.view_is)) in
    let ok = subst IsLabelling c.self.view_is c.self.invariant in
    let node = tail_is_node c.args.self.now.flow.net c.args.r.arc c.args.r.back ok.flow.of_net c.requires.arc in
    let price = read_price l c.args.self.now c.place.result _ c.index.result.now c.self.view_is c.self.invariant node from c.index.ensures in
    let less = c.if-index-price.false in
    omega (arith, ints, price, less)

pub lower-requires-clause-room : goal.lower-requires-clause-room
lower-requires-clause-room c =
    let room = c.room.ensures.value ∙ ap (λ (x : Labels). room_of x.flow c.args.r) c.self.view_is in
    let some = c.if-room-le0.false in
    record { arc = c.requires.arc; room = omega (arith, ints, room, some) }

pub lower-requires-clause-price : goal.lower-requires-clause-price
lower-requires-clause-price c =
    let same : to_z w128 (of_z w128 c.offer-price.result) ≡ c.offer-price.result = search (rules, to_z-of_z) in
    rw same c.offer-price.ensures

pub place-requires : goal.place-requires
place-requires c = c.route-from.ensures.tail_is_node.0

pub offer-price-requires-clause-floor : goal.offer-price-requires-clause-floor
offer-price-requires-clause-floor c = c.requires.floor
