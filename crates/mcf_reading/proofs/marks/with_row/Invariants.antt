use Rattle.std.proofs.Common.{◌≡◌, take}
use Rattle.mcf_reading.specs.Private.Found.{with_cells}
use Rattle.mcf_reading.specs.ShownMarks.{row_numbers}
use Rattle.mcf_reading.proofs.marks.with_row.Given as goal

abbrev pub invariant-loop-column : goal.invariant-loop-column
invariant-loop-column l =
    l.shown ≡ with_cells l.initial.shown (row_numbers l.table l.records (take l.column-index l.columns) l.row)
