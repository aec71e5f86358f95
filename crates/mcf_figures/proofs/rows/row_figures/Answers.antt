use Rattle.std.proofs.Common.{◌≡◌, ◌∙◌, ◌-ℤ◌, arith, ap, sym, subst, to_z, of_z}
use Rattle.std.specs.Prelude.{IsTrue, ◌↔◌}
use Rattle.std.specs.Int.{w128}
use Rattle.std.proofs.lemmas.Int.{ints}
use Rattle.mcf_flows.specs.Network.{at_node}
use Rattle.mcf_flows.specs.WellFormed.{IsUpTo}
use Rattle.mcf_model.specs.Model.{Route}
use Rattle.mcf_model.specs.Tables.{route_at, route_with}
use Rattle.mcf_figures.specs.declared.rows.RowFigures.{RowFigures}
use Rattle.mcf_figures.specs.Figures.{IsExact, amount_at, figure_limit}
use Rattle.mcf_figures.proofs.Classes.{exact_at}
use Rattle.mcf_figures.proofs.Told.{row_is}
use Rattle.mcf_figures.proofs.rows.row_figures.Goals as goal

pub returns-in-Some-clause-some : goal.returns-in-Some-clause-some
returns-in-Some-clause-some c =
    let m = c.args.model.now in
    let prices = c.args.prices.now in
    let k = c.args.number in
    let x : to_z w128 (of_z w128 c.amount_at-carried.result) ≡ c.amount_at-carried.result = omega (arith, ints, c.amount_at-carried.type_inv) in
    let t : to_z w128 (of_z w128 c.price_of-tail.result) ≡ c.price_of-tail.result = omega (arith, ints, c.price_of-tail.type_inv) in
    let h : to_z w128 (of_z w128 c.price_of-head.result) ≡ c.price_of-head.result = omega (arith, ints, c.price_of-head.type_inv) in
    let tail : to_z w128 (of_z w128 c.price_of-tail.result) ≡ at_node prices (route_at m k).tail =
    t ∙ c.price_of-tail.ensures ∙ ap (λ (r : Route). at_node prices r.tail) c.route_at-route.ensures.route in
    let head : to_z w128 (of_z w128 c.price_of-head.result) ≡ at_node prices (route_at m k).head =
    h ∙ c.price_of-head.ensures ∙ ap (λ (r : Route). at_node prices r.head) c.route_at-route.ensures.route in
    row_is m prices c.args.carries.now c.args.groups.now k (route_with c.route_at-route.result.row c.route_at-route.result.steps.now) _ _ _ c.row_of.result
    c.route_at-route.ensures.route (x ∙ c.amount_at-carried.ensures) (ap (λ z. z -ℤ to_z w128 (of_z w128 c.price_of-head.result)) tail ∙ ap (λ z. at_node prices (route_at m k).tail -ℤ z) head)
    c.in-Some.ensures.some c.row_of.ensures.cost c.row_of.ensures.free c.row_of.ensures.saves c.row_of.ensures.exact c.row_of.ensures.dearer

pub returns-in-Some-clause-exact : goal.returns-in-Some-clause-exact
returns-in-Some-clause-exact c number groups =
    let m = c.args.model.now in
    let prices = c.args.prices.now in
    let plan = c.args.carries.now in
    let all = c.args.groups.now in
    let k = c.args.number in
    subst (λ (t : RowFigures). IsTrue t.exact ↔ IsExact prices m plan k) (sym (returns-in-Some-clause-some c))
    (exact_at m prices plan all k (c.route_at-route.ensures.proper).sound number groups)

pub returns-in-Some-clause-small : goal.returns-in-Some-clause-small
returns-in-Some-clause-small c =
    let m = c.args.model.now in
    let prices = c.args.prices.now in
    let k = c.args.number in
    let s = c.in-Some.ensures.small in
    let x : to_z w128 (of_z w128 c.amount_at-carried.result) ≡ c.amount_at-carried.result = omega (arith, ints, c.amount_at-carried.type_inv) in
    let t : to_z w128 (of_z w128 c.price_of-tail.result) ≡ c.price_of-tail.result = omega (arith, ints, c.price_of-tail.type_inv) in
    let h : to_z w128 (of_z w128 c.price_of-head.result) ≡ c.price_of-head.result = omega (arith, ints, c.price_of-head.type_inv) in
    let amount : to_z w128 (of_z w128 c.amount_at-carried.result) ≡ amount_at c.args.carries.now k = x ∙ c.amount_at-carried.ensures in
    let tail : to_z w128 (of_z w128 c.price_of-tail.result) ≡ at_node prices (route_at m k).tail =
    t ∙ c.price_of-tail.ensures ∙ ap (λ (r : Route). at_node prices r.tail) c.route_at-route.ensures.route in
    let head : to_z w128 (of_z w128 c.price_of-head.result) ≡ at_node prices (route_at m k).head =
    h ∙ c.price_of-head.ensures ∙ ap (λ (r : Route). at_node prices r.head) c.route_at-route.ensures.route in
    record {
      amount = subst (IsUpTo figure_limit) amount s.amount;
      at_tail = subst (IsUpTo figure_limit) tail s.at_tail;
      at_head = subst (IsUpTo figure_limit) head s.at_head;
    }
