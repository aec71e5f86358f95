use Rattle.std.proofs.Common.{◌≡◌, ◌++◌, drop, map}
use Rattle.mcf_answer_rows.specs.Lines.{rows_text}
use Rattle.mcf_answer_rows.specs.FormRows.{filled_row}
use Rattle.mcf_answer_rows.proofs.filled.put_filled.Given as goal

abbrev pub invariant-loop-place : goal.invariant-loop-place
invariant-loop-place l =
    l.out.items ++ rows_text (map (filled_row l.table l.records) (drop l.place l.columns)) ≡ l.initial.out.items ++ rows_text (map (filled_row l.table l.records) l.columns)
