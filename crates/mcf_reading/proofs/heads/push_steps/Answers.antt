use Rattle.std.proofs.Common.{◌∙◌, ◌+◌, ◌++◌, ◌∷◌, [], List, ap, refl, append_assoc}
use Rattle.mcf_reading.specs.HeadTexts.{step_heads}
use Rattle.mcf_reading.specs.declared.locations.Head.{Head}
use Rattle.mcf_reading.specs.declared.locations.Head.TheVariants.{Most, Cost}
use Rattle.mcf_reading.proofs.Ranges.{pushed}
use Rattle.mcf_reading.proofs.heads.push_steps.Goals as goal

pub loop-place-preserved : goal.loop-place-preserved
loop-place-preserved c =
    let step = c.args.first + c.loop-place.place in
    let before = c.loop-place.heads.items in
    pushed step_heads c.args.first c.loop-place.place step c.args.heads.now.items before c.push-in-loop-place.new.self.items refl c.loop-place.invariant
    (c.in_ok-push-2.ensures.items ∙ ap (λ (heads : List Head). heads ++ Cost step ∷ []) c.in_ok-push.ensures.items
    ∙ append_assoc before (Most step ∷ []) (Cost step ∷ []))
