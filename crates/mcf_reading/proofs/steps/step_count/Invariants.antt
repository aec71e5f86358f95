use Rattle.std.proofs.Common.{◌≡◌, ◌<◌, ◌≤◌, ℕ, false, length}
use Rattle.mcf_table.specs.Heads.{cells_of}
use Rattle.mcf_reading.specs.Steps.{columns_at, is_step}
use Rattle.mcf_reading.proofs.steps.step_count.Given as goal

abbrev pub invariant-steps : goal.invariant-steps
invariant-steps l = record {
  inside : l.count ≤ length l.columns;
  some : l.count ≡ 0 → length l.columns ≡ 0;
  passes : (k : ℕ) → l.count ≤ k → k < length l.columns → is_step (cells_of l.records l.row) (columns_at l.columns k) ≡ false;
}

abbrev pub decreases-steps : goal.decreases-steps
decreases-steps l = l.count
