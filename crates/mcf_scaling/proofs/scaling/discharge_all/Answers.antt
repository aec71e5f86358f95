use Rattle.std.proofs.Common.{◌∙◌}
use Rattle.mcf_scaling.proofs.EngineSteps.{step_falls, step_runs, step_scale}
use Rattle.mcf_scaling.proofs.scaling.discharge_all.Goals as goal

pub steps-smaller : goal.steps-smaller
steps-smaller c =
    step_falls c.steps.refine c.step-next.new.refine c.in-Some.v c.steps.invariant.valid c.step-next.ensures.step

pub steps-preserved : goal.steps-preserved
steps-preserved c =
    record {
      run = λ a k run. step_runs a c.steps.refine c.step-next.new.refine k c.in-Some.v c.step-next.ensures.step (c.steps.invariant.run a k run);
      scale = step_scale c.steps.refine c.step-next.new.refine c.in-Some.v c.step-next.ensures.step ∙ c.steps.invariant.scale;
      valid = c.step-next.ensures.valid;
      some = c.step-next.ensures.some;
      none = c.step-next.ensures.none;
    }
