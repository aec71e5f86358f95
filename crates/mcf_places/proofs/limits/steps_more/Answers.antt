use Rattle.std.proofs.Common.{◌≡◌, ◌∙◌, ◌+ℤ◌, ap, arith, get_or, pos, rules, w64, FitsSigned, to_z, of_z}
use Rattle.std.proofs.lemmas.Int.{ints}
use Rattle.mcf_model.specs.declared.rows.Step.{Step}
use Rattle.mcf_model.specs.Model.{size}
use Rattle.mcf_places.specs.Throughput.{cut}
use Rattle.mcf_places.proofs.CutSums.{step_next}
use Rattle.mcf_places.proofs.limits.steps_more.Goals as goal

pub loop-place-preserved : goal.loop-place-preserved
loop-place-preserved c =
    let d : Step = record { most = pos 0; cost = pos 0 } in
    let x = (get_or c.args.steps.now c.loop-place.place d).most in
    let f : FitsSigned w64 x = search rules in
    let read : to_z w64 (of_z w64 x) ≡ x = omega (arith, ints, f) in
    record {
      within = c.more-sum.ensures.within;
      left = step_next c.args.steps.now c.loop-place.place d (pos c.loop-place.sum) _ (pos c.more-sum.result) c.loop-place-test.true
          (c.more-sum.ensures.value ∙ ap (λ z. cut (pos c.loop-place.sum +ℤ size z)) read) c.loop-place.invariant.left;
    }
