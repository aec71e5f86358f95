use Rattle.std.proofs.Common.{arith}
use Rattle.std.proofs.lemmas.Int.{ints}
use Rattle.mcf_cancel.specs.Private.Labels.{Labels}
use Rattle.mcf_cancel.proofs.Offers.{offered}
use Rattle.mcf_cancel.proofs.price_search.PriceSearch.offer.Goals as goal

pub overflow_add-result : goal.overflow_add-result
overflow_add-result c =
    let l : Labels = record { flow = c.self.inside.state.now; prices = c.self.inside.prices.items; links = c.self.inside.links.items } in
    let o = offered l c.args.self.now _ c.args.r c.place.result _ c.unit_cost.result c.index.result.now c.self.view_is c.self.invariant c.requires.floor
    c.requires.arc c.net-net.ensures.value c.unit_cost.ensures.value c.route-to.ensures.head c.place.ensures c.index.ensures in
    let cost = o.cost_up_to in
    let price = o.price_up_to in
    omega (arith, ints, cost, price)

pub returns : goal.returns
returns c =
    let l : Labels = record { flow = c.self.inside.state.now; prices = c.self.inside.prices.items; links = c.self.inside.links.items } in
    let o = offered l c.args.self.now _ c.args.r c.place.result _ c.unit_cost.result c.index.result.now c.self.view_is c.self.invariant c.requires.floor
    c.requires.arc c.net-net.ensures.value c.unit_cost.ensures.value c.route-to.ensures.head c.place.ensures c.index.ensures in
    let cost = o.cost_up_to in
    let price = o.price_up_to in
    let sum = o.sum in
    omega (arith, ints, cost, price, sum)
