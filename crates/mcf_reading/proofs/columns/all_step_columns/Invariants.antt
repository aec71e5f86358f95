use Rattle.std.proofs.Common.{◌≡◌, map}
use Rattle.std.specs.List.{range_with_len}
use Rattle.mcf_reading.specs.Columns.{step_columns}
use Rattle.mcf_reading.proofs.columns.all_step_columns.Given as goal

abbrev pub invariant-loop-place : goal.invariant-loop-place
invariant-loop-place l = l.made.items ≡ map (step_columns l.records) (range_with_len 1 l.place)
