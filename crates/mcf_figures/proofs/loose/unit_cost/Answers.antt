use Rattle.std.proofs.Common.{rules, ◌≡◌, ◌∙◌, arith, pos, w64, slice_index_or, FitsSigned, to_z, of_z}
use Rattle.std.specs.Int.{w128}
use Rattle.std.proofs.lemmas.Int.{ints}
use Rattle.mcf_model.specs.declared.rows.Step.{Step}
use Rattle.mcf_figures.proofs.LooseRoutes.{found_here}
use Rattle.mcf_figures.proofs.loose.unit_cost.Goals as goal

pub returns-in-None : goal.returns-in-None
returns-in-None c =
    let none : Step = record { most = pos 0; cost = pos 0 } in
    let here = slice_index_or c.args.own.now c.loop-place.place none in
    let f : FitsSigned w64 here.cost = search rules in
    let read : to_z w64 (of_z w64 here.cost) ≡ here.cost = search rules in
    let last : to_z w64 (of_z w64 c.args.last_cost) ≡ c.args.last_cost = omega (arith, ints, c.ranges.last_cost.sfits) in
    let amount : to_z w128 (of_z w128 c.args.amount) ≡ c.args.amount = omega (arith, ints, c.ranges.amount.sfits) in
    read ∙ found_here c.args.own.now c.loop-place.place none c.args.last_cost _ _ c.args.amount _ c.past.result c.loop-place-test.true last amount
    c.past.ensures c.in-None.is c.loop-place.invariant
