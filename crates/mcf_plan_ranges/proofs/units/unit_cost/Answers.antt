use Rattle.std.proofs.Common.{rules, ◌≡◌, ◌∙◌, arith, pos, w64, slice_index_or, FitsSigned, to_z, of_z}
use Rattle.std.specs.Int.{w128}
use Rattle.std.proofs.lemmas.Int.{ints}
use Rattle.mcf_model.specs.declared.rows.Step.{Step}
use Rattle.mcf_plan_ranges.proofs.UnitCosts.{found_here, found_last, found_later}
use Rattle.mcf_plan_ranges.proofs.units.unit_cost.Goals as goal

pub returns-in-None-clause-value : goal.returns-in-None-clause-value
returns-in-None-clause-value c =
    let none : Step = record { most = pos 0; cost = pos 0 } in
    let here = slice_index_or c.args.own.now c.loop-place.place none in
    let f : FitsSigned w64 here.cost = search rules in
    let read : to_z w64 (of_z w64 here.cost) ≡ here.cost = search rules in
    let last : to_z w64 (of_z w64 c.args.last_cost) ≡ c.args.last_cost = omega (arith, ints, c.ranges.last_cost.sfits) in
    let amount : to_z w128 (of_z w128 c.args.amount) ≡ c.args.amount = omega (arith, ints, c.ranges.amount.sfits) in
    read ∙ found_here c.args.own.now c.loop-place.place none c.args.last_cost _ _ c.args.amount _ last amount c.loop-place.invariant c.past.result
    c.loop-place-test.true c.past.ensures c.in-None.is

pub loop-place-preserved : goal.loop-place-preserved
loop-place-preserved c =
    let none : Step = record { most = pos 0; cost = pos 0 } in
    let last : to_z w64 (of_z w64 c.args.last_cost) ≡ c.args.last_cost = omega (arith, ints, c.ranges.last_cost.sfits) in
    let amount : to_z w128 (of_z w128 c.args.amount) ≡ c.args.amount = omega (arith, ints, c.ranges.amount.sfits) in
    let left : to_z w128 (of_z w128 c.in-Some.left) ≡ c.in-Some.left = search rules in
    rw left (found_later c.args.own.now c.loop-place.place none c.args.last_cost _ _ c.args.amount _ last amount c.loop-place.invariant c.past.result
    c.loop-place-test.true c.past.ensures c.in-Some.left c.in-Some.is)

pub returns-clause-value : goal.returns-clause-value
returns-clause-value c =
    let none : Step = record { most = pos 0; cost = pos 0 } in
    let last : to_z w64 (of_z w64 c.args.last_cost) ≡ c.args.last_cost = omega (arith, ints, c.ranges.last_cost.sfits) in
    let amount : to_z w128 (of_z w128 c.args.amount) ≡ c.args.amount = omega (arith, ints, c.ranges.amount.sfits) in
    last ∙ found_last c.args.own.now c.loop-place.place none c.args.last_cost _ (to_z w128 c.loop-place.rest-bits) c.args.amount _ last amount c.loop-place.invariant c.loop-place-test.false
