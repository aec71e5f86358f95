use Rattle.std.proofs.Common.{rules, ◌≡◌, ◌∙◌, arith, pos, ◌≤ℤ◌, w64, to_z, of_z}
use Rattle.std.specs.Int.{w128}
use Rattle.std.proofs.lemmas.Int.{ints}
use Rattle.mcf_model.specs.Tables.{route_with}
use Rattle.mcf_plan_ranges.proofs.UnitCosts.{from_le, less_is}
use Rattle.mcf_plan_ranges.proofs.units.less_cost.Goals as goal

pub returns-then-amount-le0-clause-value : goal.returns-then-amount-le0-clause-value
returns-then-amount-le0-clause-value c =
    let small = c.unit_cost.ensures.small in
    let read : to_z w64 (of_z w64 c.unit_cost.result) ≡ c.unit_cost.result = omega (arith, ints, small) in
    let amount : to_z w128 (of_z w128 c.args.amount) ≡ c.args.amount = omega (arith, ints, c.ranges.amount.sfits) in
    let below : c.args.amount ≤ℤ pos 0 = omega (arith, ints, amount, from_le (to_z w128 (of_z w128 c.args.amount)) (pos 0) c.if-amount-le0.true) in
    let again : to_z w128 (of_z w128 c.turned-size.result) ≡ c.turned-size.result = search rules in
    let last : to_z w64 (of_z w64 c.args.row.last_cost) ≡ c.args.row.last_cost = search rules in
    read ∙ less_is (route_with c.args.row c.args.own.now) c.args.amount c.turned-size.result c.unit_cost.result c.if-row.true below (rw amount at c.turned-size.ensures.value) (rw (again, last) at c.unit_cost.ensures.value)
