use Rattle.std.proofs.Common.{◌≡◌, ◌+◌, ◌++◌, map}
use Rattle.std.specs.List.{flat_map, range_with_len}
use Rattle.mcf_table.specs.Heads.{cells_of}
use Rattle.mcf_reading.specs.Steps.{read_step, step_entry, step_faults}
use Rattle.mcf_reading.proofs.steps.push_steps.Given as goal

abbrev pub invariant-loop-step : goal.invariant-loop-step
invariant-loop-step l = record {
  steps : l.steps.items
      ≡ l.initial.steps.items ++ map (λ step. step_entry (read_step l.mark l.columns (cells_of l.records l.row) step)) (range_with_len 0 l.step);
  faults : l.faults.items
      ≡ l.initial.faults.items ++ flat_map (λ step. step_faults l.row (step + 1) (read_step l.mark l.columns (cells_of l.records l.row) step)) (range_with_len 0 l.step);
}
