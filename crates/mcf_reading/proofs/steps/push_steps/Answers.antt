use Rattle.std.proofs.Common.{◌∙◌, ◌+◌, ◌++◌, ◌∷◌, [], ap, arith}
use Rattle.mcf_table.specs.Heads.{cells_of}
use Rattle.mcf_reading.specs.Steps.{read_step, step_entry, step_faults}
use Rattle.mcf_reading.specs.declared.steps.StepEntry.{StepEntry}
use Rattle.mcf_reading.specs.declared.steps.StepRead.{StepRead}
use Rattle.mcf_reading.proofs.Ranges.{listed, pushed}
use Rattle.mcf_reading.proofs.steps.push_steps.Goals as goal

pub loop-step-preserved : goal.loop-step-preserved
loop-step-preserved c =
    let cells = cells_of c.args.records.now c.args.row in
    let read = read_step c.args.mark c.args.columns.now cells in
    let step = c.loop-step.step in
    let steps = c.loop-step.steps.items in
    let faults = c.loop-step.faults.items in
    record {
      steps = listed (λ s. step_entry (read s)) 0 step step c.args.steps.now.items steps c.push.new.self.items (omega arith) c.loop-step.invariant.steps
          (c.in_ok-push.ensures.items ∙ ap (λ (entry : StepEntry). steps ++ entry ∷ []) (c.step_entry.ensures ∙ ap step_entry c.read_step-read.ensures));
      faults = pushed (λ s. step_faults c.args.row (s + 1) (read s)) 0 step step c.args.faults.now.items faults c.push_step_faults.new.faults.items (omega arith)
          c.loop-step.invariant.faults
          (c.in_ok-push_step_faults.ensures ∙ ap (λ (r : StepRead). faults ++ step_faults c.args.row (step + 1) r) c.read_step-read.ensures);
    }
