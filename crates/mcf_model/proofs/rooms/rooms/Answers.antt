use Rattle.std.proofs.Common.{rules, ◌^◌, ◌<◌, arith}
use Rattle.std.proofs.lemmas.Int.{ints}
use Rattle.mcf_model.proofs.RoomSums.{room_next}
use Rattle.mcf_model.proofs.rooms.rooms.Goals as goal

pub loop-place-preserved : goal.loop-place-preserved
loop-place-preserved c =
    let few : c.loop-place.place < 2 ^ 63 = search (rules, arith) in
    let more = room_next c.args.own.now c.loop-place.place _ c.most_of-total.result c.most_of-total.ensures.value c.loop-place-test.true in
    record {
      sum = omega (arith, ints, more, c.most_of-total.ensures.low, c.most_of-total.ensures.high, c.loop-place.invariant, few);
      low = omega (arith, ints, more, c.most_of-total.ensures.low, c.most_of-total.ensures.high, c.loop-place.invariant);
      high = omega (arith, ints, more, c.most_of-total.ensures.low, c.most_of-total.ensures.high, c.loop-place.invariant);
    }
