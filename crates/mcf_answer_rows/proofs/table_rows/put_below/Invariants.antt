use Rattle.std.proofs.Common.{◌≡◌, ◌++◌, codes, drop, map}
use Rattle.mcf_answer_rows.specs.Lines.{rows_text}
use Rattle.mcf_answer_rows.specs.TableRows.{record_row}
use Rattle.mcf_answer_rows.proofs.table_rows.put_below.Given as goal

abbrev pub invariant-loop-row : goal.invariant-loop-row
invariant-loop-row l =
    l.out.items ++ rows_text (map (record_row (codes "row") l.table) (drop l.row l.records))
    ≡ l.initial.out.items ++ rows_text (map (record_row (codes "row") l.table) (drop 1 l.records))
