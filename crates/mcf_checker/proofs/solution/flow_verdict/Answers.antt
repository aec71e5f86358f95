use Rattle.std.proofs.Common.{◌≡◌, None, rules, sym, ◌∙◌}
use Rattle.std.specs.Int.{w128}
use Rattle.std.specs.Prelude.{FitsSigned}
use Rattle.std.proofs.lemmas.Int.{to_z-of_z}
use Rattle.mcf_checker.specs.Judging.{bad_node, bad_price}
use Rattle.mcf_checker.specs.Private.StatedFlows.{flow_stated}
use Rattle.mcf_checker.proofs.BadNodes.{AllMet-from_none}
use Rattle.mcf_checker.proofs.PriceLists.{values_length}
use Rattle.mcf_checker.proofs.Solutions.{at_bad_cost, at_bad_node, at_bad_price, at_flow}
use Rattle.mcf_checker.proofs.solution.flow_verdict.Goals as goal

pub returns-in-Some-clause-value : goal.returns-in-Some-clause-value
returns-in-Some-clause-value t c =
    let g = c.args.instance.now in
    let prices = t.P.Price.values c.args.prices.now in
    let flow = flow_stated g.arcs c.args.stated in
    at_bad_node g c.args.total prices flow c.in-Some.node (sym c.in-Some.is ∙ c.in_ok-node.ensures.value)

pub first_bad_price-requires-clause-one_price_each : goal.first_bad_price-requires-clause-one_price_each
first_bad_price-requires-clause-one_price_each t c =
    let g = c.args.instance.now in
    let prices = t.P.Price.values c.args.prices.now in
    let flow = flow_stated g.arcs c.args.stated in
    let no_node : bad_node g prices flow ≡ None = sym c.in_ok-node.ensures.value ∙ c.in_default.is in
    sym (values_length t.P.Price.value t.P.Price.values t.met.P.Price.each c.args.prices.now) ∙ (AllMet-from_none g prices flow no_node).one_price_each

pub returns-in-Some-first_bad_price-clause-value : goal.returns-in-Some-first_bad_price-clause-value
returns-in-Some-first_bad_price-clause-value t c =
    let g = c.args.instance.now in
    let prices = t.P.Price.values c.args.prices.now in
    let flow = flow_stated g.arcs c.args.stated in
    let no_node : bad_node g prices flow ≡ None = sym c.in_ok-node.ensures.value ∙ c.in_default.is in
    at_bad_price g c.args.total prices flow c.in-Some-first_bad_price.arc no_node (sym c.in-Some-first_bad_price.is ∙ c.first_bad_price.ensures)

pub returns-then-has_cost-clause-value : goal.returns-then-has_cost-clause-value
returns-then-has_cost-clause-value t c =
    let g = c.args.instance.now in
    let prices = t.P.Price.values c.args.prices.now in
    let flow = flow_stated g.arcs c.args.stated in
    let no_node : bad_node g prices flow ≡ None = sym c.in_ok-node.ensures.value ∙ c.in_default.is in
    let no_price : bad_price g prices flow ≡ None = sym c.first_bad_price.ensures ∙ c.in_default-first_bad_price.is in
    let fits : FitsSigned w128 c.args.total = search rules in
    let test = simp to_z-of_z at c.has_cost.ensures in
    simp to_z-of_z (at_flow g c.args.total prices flow no_node no_price (sym test ∙ c.if-has_cost.true))

pub returns-else-has_cost-clause-value : goal.returns-else-has_cost-clause-value
returns-else-has_cost-clause-value t c =
    let g = c.args.instance.now in
    let prices = t.P.Price.values c.args.prices.now in
    let flow = flow_stated g.arcs c.args.stated in
    let no_node : bad_node g prices flow ≡ None = sym c.in_ok-node.ensures.value ∙ c.in_default.is in
    let no_price : bad_price g prices flow ≡ None = sym c.first_bad_price.ensures ∙ c.in_default-first_bad_price.is in
    let fits : FitsSigned w128 c.args.total = search rules in
    let test = simp to_z-of_z at c.has_cost.ensures in
    at_bad_cost g c.args.total prices flow no_node no_price (sym test ∙ c.if-has_cost.false)
