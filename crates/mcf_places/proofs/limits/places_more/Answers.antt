use Rattle.std.proofs.Common.{pos}
use Rattle.std.specs.Prelude.{None}
use Rattle.mcf_places.specs.declared.places.Place.{Place}
use Rattle.mcf_places.proofs.CutSums.{place_next_sum}
use Rattle.mcf_places.proofs.limits.places_more.Goals as goal

pub loop-place-preserved : goal.loop-place-preserved
loop-place-preserved c =
    let d : Place = record { supply = pos 0; through = None; penalty = None } in
    record {
      within = c.place_more-sum.ensures.within;
      left = place_next_sum c.args.places.now c.loop-place.place d (pos c.loop-place.sum) _ (pos c.place_more-sum.result) c.loop-place-test.true
          c.place_more-sum.ensures.value c.loop-place.invariant.left;
    }
