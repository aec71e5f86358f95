use Rattle.std.proofs.Common.{rules, ◌≡◌, ◌<◌, ◌≤◌, ◌^◌, ap, sym, ◌∙◌, arith, pos, slice_index_or, w64, FitsSigned, to_z, of_z}
use Rattle.std.specs.Int.{w128}
use Rattle.std.proofs.lemmas.Int.{ints}
use Rattle.mcf_model.specs.declared.rows.Step.{Step}
use Rattle.mcf_unit_ranges.specs.Spans.{room_below}
use Rattle.mcf_unit_ranges.proofs.RoomSteps.{below_end, below_more}
use Rattle.mcf_unit_ranges.proofs.rooms.room_below.Goals as goal

pub loop-place-preserved : goal.loop-place-preserved
loop-place-preserved c =
    let none : Step = record { most = pos 0; cost = pos 0 } in
    let z = to_z w128 (of_z w128 c.args.drop) in
    let last = to_z w64 (of_z w64 c.args.last_cost) in
    let here = slice_index_or c.args.own.now c.loop-place.place none in
    let f : FitsSigned w64 here.cost = search rules in
    let read : to_z w64 (of_z w64 here.cost) ≡ here.cost = search rules in
    let few : c.loop-place.place < 2 ^ 63 = search (rules, arith) in
    let more = below_more c.args.own.now c.loop-place.place none z last (to_z w64 (of_z w64 here.cost)) c.most_of-total.result c.args.last_most
    c.loop-place-test.true read (sym c.costs_less.ensures ∙ c.if-not-costs_less.false) c.most_of-total.ensures.value in
    record {
      sum = omega (arith, ints, more, c.most_of-total.ensures.low, c.most_of-total.ensures.high, c.loop-place.invariant, few);
      low = omega (arith, ints, c.most_of-total.ensures.low, c.most_of-total.ensures.high, c.loop-place.invariant.low, c.loop-place.invariant.high, few);
      high = omega (arith, ints, c.most_of-total.ensures.low, c.most_of-total.ensures.high, c.loop-place.invariant.low, c.loop-place.invariant.high, few);
    }

pub returns : goal.returns
returns c =
    let own = c.args.own.now in
    let z = to_z w128 (of_z w128 c.args.drop) in
    let last = to_z w64 (of_z w64 c.args.last_cost) in
    let few : c.loop-place.place ≤ 2 ^ 63 = search (rules, arith) in
    let same_drop : z ≡ c.args.drop = omega (arith, ints, c.ranges.drop.sfits) in
    let same_last : last ≡ c.args.last_cost = omega (arith, ints, c.ranges.last_cost.sfits) in
    let end = below_end own c.loop-place.place z last c.args.last_most c.loop-place-test.false in
    let whole : room_below z own last c.args.last_most ≡ room_below c.args.drop own c.args.last_cost c.args.last_most =
    ap (λ y. room_below y own last c.args.last_most) same_drop ∙ ap (λ y. room_below c.args.drop own y c.args.last_most) same_last in
    omega (
      arith,
      ints,
      end,
      whole,
      few,
      c.last_below.ensures.value,
      c.last_below.ensures.low,
      c.last_below.ensures.high,
      c.loop-place.invariant,
    )
