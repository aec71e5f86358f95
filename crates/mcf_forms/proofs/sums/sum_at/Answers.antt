use Rattle.std.proofs.Common.{arith}
use Rattle.std.proofs.lemmas.Int.{ints}
use Rattle.mcf_forms.proofs.SumLemmas.{fit_more, sum_more}
use Rattle.mcf_forms.proofs.sums.sum_at.Goals as goal

pub loop-place-preserved : goal.loop-place-preserved
loop-place-preserved c = record {
  fit = fit_more c.args.scale c.args.numbers.now c.loop-place.place _ c.loop-place-test.true c.loop-place.invariant.fit c.in_ok-value.ensures.0;
  is = sum_more c.args.scale c.args.numbers.now c.loop-place.place _ _ c.in_ok-value.value _ c.loop-place-test.true
      c.loop-place.invariant.is c.in_ok-value.ensures.1 (omega (arith, ints));
  low = omega (arith, ints);
  high = omega (arith, ints);
}
