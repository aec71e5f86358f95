use Rattle.std.proofs.Common.{rules, ◌<◌, length, arith, to_z, of_z, ◌≡◌, ◌∙◌}
use Rattle.std.specs.Int.{w128}
use Rattle.std.proofs.lemmas.Int.{ints}
use Rattle.mcf_model.specs.Tables.{route_with}
use Rattle.mcf_figures.proofs.Told.{told}
use Rattle.mcf_figures.proofs.figures.route_figures.Goals as goal

pub returns-clause-some : goal.returns-clause-some
returns-clause-some c =
    let inside : c.args.place < length c.args.model.now.routes = search (rules, arith) in
    let x : to_z w128 (of_z w128 c.number_at-carried.result) ≡ c.number_at-carried.result = omega (arith, ints, c.number_at-carried.type_inv) in
    let t : to_z w128 (of_z w128 c.price_of-tail.result) ≡ c.price_of-tail.result = omega (arith, ints, c.price_of-tail.type_inv) in
    let h : to_z w128 (of_z w128 c.price_of-head.result) ≡ c.price_of-head.result = omega (arith, ints, c.price_of-head.type_inv) in
    told c.figures_of.result c.args.model.now c.args.prices.now c.args.place (route_with c.route-route.result.row c.route-route.result.steps.now)
    _ _ _ _ c.route-route.ensures.proper inside c.route-route.ensures.value (x ∙ c.number_at-carried.ensures) (t ∙ c.price_of-tail.ensures)
    (h ∙ c.price_of-head.ensures) c.figures_of.ensures.some
