use Rattle.std.proofs.Common.{rules, ◌^◌, ◌<◌, arith}
use Rattle.std.proofs.lemmas.Int.{ints}
use Rattle.mcf_model.proofs.Reaches.{leasts_more}
use Rattle.mcf_model.proofs.reach.leasts.Goals as goal

pub loop-place-preserved : goal.loop-place-preserved
loop-place-preserved c =
    let few : c.loop-place.place < 2 ^ 63 = search (rules, arith) in
    let more = leasts_more c.args.rows.now c.loop-place.place _ c.least_size-total.result c.loop-place-test.true c.least_size-total.ensures.value in
    record {
      sum = omega (arith, ints, more, c.least_size-total.ensures.low, c.least_size-total.ensures.high, c.loop-place.invariant, few);
      low = omega (arith, ints, more, c.least_size-total.ensures.low, c.loop-place.invariant);
      high = omega (arith, ints, more, c.least_size-total.ensures.high, c.loop-place.invariant);
    }
