use Rattle.std.proofs.Common.{◌≡◌}
use Rattle.std.specs.List.{flat_map, range_with_len}
use Rattle.mcf_reading.specs.Private.Found.{with_cells}
use Rattle.mcf_reading.specs.ShownMarks.{row_numbers}
use Rattle.mcf_reading.proofs.marks.with_table.Given as goal

abbrev pub invariant-loop-place : goal.invariant-loop-place
invariant-loop-place l =
    l.shown ≡ with_cells l.initial.shown (flat_map (row_numbers l.table l.records l.columns) (range_with_len 1 l.place))
