use Rattle.std.proofs.Common.{rules, ◌≡◌, ◌∙◌, ap, arith, ◌<◌, ◌^◌, length, get_or, pos, ◌+ℤ◌, ◌-ℤ◌, ◌≤ℤ◌, w64, FitsSigned, to_z, of_z}
use Rattle.std.specs.Prelude.{◌*ℤ◌}
use Rattle.std.specs.Int.{int_min, w128}
use Rattle.std.proofs.lemmas.Int.{ints}
use Rattle.mcf_flows.specs.WellFormed.{IsUpTo}
use Rattle.mcf_model.specs.declared.rows.Step.{Step}
use Rattle.mcf_model.specs.Model.{charge}
use Rattle.mcf_figures.specs.Told.{cost_limit}
use Rattle.mcf_figures.proofs.StepCosts.{charged_all, charged_more, part_small, rest_small, sum_small, total_small}
use Rattle.mcf_figures.proofs.costs.charge.Goals as goal

abbrev no_step : Step
no_step = record { most = pos 0; cost = pos 0 }

pub times-total-requires : goal.times-total-requires
times-total-requires c =
    let here = get_or c.args.own.now c.loop-place.place no_step in
    let h : c.loop-place.place < length c.args.own.now = search rules in
    let x : to_z w128 (of_z w128 c.args.amount) ≡ c.args.amount = omega (arith, ints, c.ranges.amount.sfits) in
    let small : IsUpTo cost_limit (to_z w128 (of_z w128 c.args.amount)) = (omega (arith, ints, c.requires.small, x), omega (arith, ints, c.requires.small, x)) in
    let takes : pos 0 ≤ℤ here.most = c.requires.takes c.loop-place.place no_step h in
    let read : to_z w128 (of_z w128 c.taken-part.result) ≡ c.taken-part.result = omega (arith, ints, c.taken-part.type_inv) in
    let part_is : c.taken-part.result ≡ int_min (to_z w128 c.loop-place.rest-bits) here.most = search rules in
    let p = part_small (to_z w128 c.loop-place.rest-bits) here.most takes (rest_small _ _ _ _ _ _ c.loop-place.invariant small) in
    (omega (arith, ints, p.0, part_is, read), omega (arith, ints, p.1, part_is, read))

pub overflow_add-total : goal.overflow_add-total
overflow_add-total c =
    let here = get_or c.args.own.now c.loop-place.place no_step in
    let h : c.loop-place.place < length c.args.own.now = search rules in
    let x : to_z w128 (of_z w128 c.args.amount) ≡ c.args.amount = omega (arith, ints, c.ranges.amount.sfits) in
    let small : IsUpTo cost_limit (to_z w128 (of_z w128 c.args.amount)) = (omega (arith, ints, c.requires.small, x), omega (arith, ints, c.requires.small, x)) in
    let takes : pos 0 ≤ℤ here.most = c.requires.takes c.loop-place.place no_step h in
    let read : to_z w128 (of_z w128 c.taken-part.result) ≡ c.taken-part.result = omega (arith, ints, c.taken-part.type_inv) in
    let part_is : c.taken-part.result ≡ int_min (to_z w128 c.loop-place.rest-bits) here.most = search rules in
    let f : FitsSigned w64 here.cost = search rules in
    let unit : to_z w64 (of_z w64 here.cost) ≡ here.cost = search rules in
    let up : IsUpTo (2 ^ 63) here.cost = (omega (arith, ints, f), omega (arith, ints, f)) in
    let cost_is : c.times-total.result ≡ here.cost *ℤ c.taken-part.result =
    c.times-total.ensures ∙ ap (λ z. z *ℤ to_z w128 (of_z w128 c.taken-part.result)) unit ∙ ap (λ z. here.cost *ℤ z) read in
    let costs : to_z w128 (of_z w128 c.times-total.result) ≡ c.times-total.result = omega (arith, ints, c.times-total.type_inv) in
    let next = charged_more _ _ no_step _ _ _ _ _ _ h takes up part_is cost_is c.loop-place.invariant in
    let t = total_small _ _ _ _ _ _ next small in
    omega (arith, ints, t.0, t.1, costs)

pub loop-place-preserved : goal.loop-place-preserved
loop-place-preserved c =
    let here = get_or c.args.own.now c.loop-place.place no_step in
    let h : c.loop-place.place < length c.args.own.now = search rules in
    let x : to_z w128 (of_z w128 c.args.amount) ≡ c.args.amount = omega (arith, ints, c.ranges.amount.sfits) in
    let small : IsUpTo cost_limit (to_z w128 (of_z w128 c.args.amount)) = (omega (arith, ints, c.requires.small, x), omega (arith, ints, c.requires.small, x)) in
    let takes : pos 0 ≤ℤ here.most = c.requires.takes c.loop-place.place no_step h in
    let read : to_z w128 (of_z w128 c.taken-part.result) ≡ c.taken-part.result = omega (arith, ints, c.taken-part.type_inv) in
    let part_is : c.taken-part.result ≡ int_min (to_z w128 c.loop-place.rest-bits) here.most = search rules in
    let f : FitsSigned w64 here.cost = search rules in
    let unit : to_z w64 (of_z w64 here.cost) ≡ here.cost = search rules in
    let up : IsUpTo (2 ^ 63) here.cost = (omega (arith, ints, f), omega (arith, ints, f)) in
    let cost_is : c.times-total.result ≡ here.cost *ℤ c.taken-part.result =
    c.times-total.ensures ∙ ap (λ z. z *ℤ to_z w128 (of_z w128 c.taken-part.result)) unit ∙ ap (λ z. here.cost *ℤ z) read in
    let costs : to_z w128 (of_z w128 c.times-total.result) ≡ c.times-total.result = omega (arith, ints, c.times-total.type_inv) in
    let next = charged_more _ _ no_step _ _ _ _ _ _ h takes up part_is cost_is c.loop-place.invariant in
    let t = total_small _ _ _ _ _ _ next small in
    let r = rest_small _ _ _ _ _ _ next small in
    let rest_is : to_z w128 (of_z w128 (to_z w128 c.loop-place.rest-bits -ℤ to_z w128 (of_z w128 c.taken-part.result))) ≡ to_z w128 c.loop-place.rest-bits -ℤ c.taken-part.result =
    omega (arith, ints, read, r.0, r.1) in
    let total_is : to_z w128 (of_z w128 (to_z w128 c.loop-place.total-bits +ℤ to_z w128 (of_z w128 c.times-total.result))) ≡ to_z w128 c.loop-place.total-bits +ℤ c.times-total.result =
    omega (arith, ints, costs, t.0, t.1) in
    rw (rest_is, total_is) next

pub overflow_add-result : goal.overflow_add-result
overflow_add-result c =
    let x : to_z w128 (of_z w128 c.args.amount) ≡ c.args.amount = omega (arith, ints, c.ranges.amount.sfits) in
    let small : IsUpTo cost_limit (to_z w128 (of_z w128 c.args.amount)) = (omega (arith, ints, c.requires.small, x), omega (arith, ints, c.requires.small, x)) in
    let costs : to_z w128 (of_z w128 c.times.result) ≡ c.times.result = omega (arith, ints, c.times.type_inv) in
    let f = c.ranges.last_cost.sfits in
    let last : to_z w64 (of_z w64 c.args.last_cost) ≡ c.args.last_cost = omega (arith, ints, f) in
    let up : IsUpTo (2 ^ 63) (to_z w64 (of_z w64 c.args.last_cost)) = (omega (arith, ints, f, last), omega (arith, ints, f, last)) in
    let cost_is : c.times.result ≡ to_z w64 (of_z w64 c.args.last_cost) *ℤ to_z w128 c.loop-place.rest-bits = search rules in
    let t = sum_small _ _ _ _ _ _ _ up small cost_is c.loop-place.invariant in
    omega (arith, ints, t.0, t.1, costs)

pub returns : goal.returns
returns c =
    let x : to_z w128 (of_z w128 c.args.amount) ≡ c.args.amount = omega (arith, ints, c.ranges.amount.sfits) in
    let small : IsUpTo cost_limit (to_z w128 (of_z w128 c.args.amount)) = (omega (arith, ints, c.requires.small, x), omega (arith, ints, c.requires.small, x)) in
    let costs : to_z w128 (of_z w128 c.times.result) ≡ c.times.result = omega (arith, ints, c.times.type_inv) in
    let f = c.ranges.last_cost.sfits in
    let last : to_z w64 (of_z w64 c.args.last_cost) ≡ c.args.last_cost = omega (arith, ints, f) in
    let up : IsUpTo (2 ^ 63) (to_z w64 (of_z w64 c.args.last_cost)) = (omega (arith, ints, f, last), omega (arith, ints, f, last)) in
    let cost_is : c.times.result ≡ to_z w64 (of_z w64 c.args.last_cost) *ℤ to_z w128 c.loop-place.rest-bits = search rules in
    let t = sum_small _ _ _ _ _ _ _ up small cost_is c.loop-place.invariant in
    let all : length c.args.own.now ≡ c.loop-place.place = omega (arith, c.loop-place-test.false, c.loop-place.auto) in
    let sum_is : to_z w128 (of_z w128 (to_z w128 c.loop-place.total-bits +ℤ to_z w128 (of_z w128 c.times.result))) ≡ to_z w128 c.loop-place.total-bits +ℤ c.times.result =
    omega (arith, ints, costs, t.0, t.1) in
    sum_is ∙ charged_all _ _ _ _ _ _ _ all cost_is c.loop-place.invariant ∙ ap (λ z. charge c.args.own.now z (to_z w128 (of_z w128 c.args.amount))) last
    ∙ ap (charge c.args.own.now c.args.last_cost) x
