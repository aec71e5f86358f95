use Rattle.std.proofs.Common.{rules, ◌≡◌, ap, ◌∙◌, arith, pos, ◌-ℤ◌, w64, to_z, of_z}
use Rattle.std.specs.Int.{w128}
use Rattle.std.proofs.lemmas.Int.{ints}
use Rattle.mcf_plan_ranges.proofs.UnitCosts.{saved_is}
use Rattle.mcf_plan_ranges.proofs.units.saved_cost.Goals as goal

pub returns-clause-value : goal.returns-clause-value
returns-clause-value c =
    let small = c.unit_cost-cost.ensures.small in
    let read : to_z w64 (of_z w64 (pos 0 -ℤ to_z w64 (of_z w64 c.unit_cost-cost.result))) ≡ pos 0 -ℤ c.unit_cost-cost.result = omega (arith, ints, small) in
    let amount : to_z w128 (of_z w128 c.args.amount) ≡ c.args.amount = omega (arith, ints, c.ranges.amount.sfits) in
    let before = c.next-before.ensures.value ∙ ap (λ z. z -ℤ pos 1) amount in
    let last : to_z w64 (of_z w64 c.args.last_cost) ≡ c.args.last_cost = omega (arith, ints, c.ranges.last_cost.sfits) in
    let again : to_z w128 (of_z w128 c.next-before.result) ≡ c.next-before.result = search rules in
    read ∙ saved_is c.args.own.now c.args.last_cost c.args.amount c.next-before.result c.unit_cost-cost.result before (rw (last, again) at c.unit_cost-cost.ensures.value)
