use Rattle.std.proofs.Common.{rules, ◌≡◌, ◌<◌, ◌^◌, ◌+ℤ◌, sym, ◌∙◌, arith, pos, slice_index_or, w64, FitsSigned, to_z, of_z}
use Rattle.std.specs.Int.{w128}
use Rattle.std.proofs.lemmas.Int.{ints}
use Rattle.mcf_model.specs.declared.rows.Step.{Step}
use Rattle.mcf_unit_ranges.proofs.RoomSteps.{up_more, up_next}
use Rattle.mcf_unit_ranges.proofs.rooms.room_up_to.Goals as goal

pub loop-place-preserved : goal.loop-place-preserved
loop-place-preserved c =
    let none : Step = record { most = pos 0; cost = pos 0 } in
    let z = to_z w128 (of_z w128 c.args.drop) in
    let last = to_z w64 (of_z w64 c.args.last_cost) in
    let here = slice_index_or c.args.own.now c.loop-place.place none in
    let f : FitsSigned w64 here.cost = search rules in
    let read : to_z w64 (of_z w64 here.cost) ≡ here.cost = search rules in
    let few : c.loop-place.place < 2 ^ 63 = search (rules, arith) in
    let more = up_more c.args.own.now c.loop-place.place none z last (to_z w64 (of_z w64 here.cost)) c.most_of-total.result c.args.last_most
    c.loop-place-test.true read (sym c.costs_no_more.ensures ∙ c.if-not-costs_no_more.false) c.most_of-total.ensures.value in
    let t = to_z w128 c.loop-place.total-bits in
    let x = c.most_of-total.result in
    let kept : to_z w128 (of_z w128 (t +ℤ to_z w128 (of_z w128 x))) ≡ t +ℤ x =
    omega (arith, ints, c.most_of-total.ensures.low, c.most_of-total.ensures.high, c.loop-place.invariant.low, c.loop-place.invariant.high, few) in
    record {
      sum = up_next t _ x _ _ _ kept more c.loop-place.invariant.sum;
      low = omega (arith, ints, c.most_of-total.ensures.low, c.most_of-total.ensures.high, c.loop-place.invariant.low, c.loop-place.invariant.high, few);
      high = omega (arith, ints, c.most_of-total.ensures.low, c.most_of-total.ensures.high, c.loop-place.invariant.low, c.loop-place.invariant.high, few);
    }
