use Rattle.std.proofs.Common.{rules, ◌≡◌, ◌^◌, ◌<◌, arith, pos, w64, slice_index_or, FitsSigned, to_z, of_z}
use Rattle.std.proofs.lemmas.Int.{ints}
use Rattle.mcf_model.specs.Model.{size}
use Rattle.mcf_model.proofs.Reaches.{sizes_more}
use Rattle.mcf_model.proofs.reach.sizes.Goals as goal

pub loop-place-preserved : goal.loop-place-preserved
loop-place-preserved c =
    let x = slice_index_or c.args.supplies.now c.loop-place.place (pos 0) in
    let f : FitsSigned w64 x = search rules in
    let read : to_z w64 (of_z w64 x) ≡ x = omega (arith, ints, f) in
    let e : c.size-total.result ≡ size x = rw read at c.size-total.ensures.value in
    let more = sizes_more c.args.supplies.now c.loop-place.place (pos 0) c.loop-place-test.true in
    let few : c.loop-place.place < 2 ^ 63 = search (rules, arith) in
    record {
      sum = omega (arith, ints, more, e, c.size-total.ensures.low, c.size-total.ensures.high, c.loop-place.invariant, few);
      low = omega (arith, ints, more, e, c.size-total.ensures.low, c.loop-place.invariant);
      high = omega (arith, ints, more, e, c.size-total.ensures.high, c.loop-place.invariant);
    }
