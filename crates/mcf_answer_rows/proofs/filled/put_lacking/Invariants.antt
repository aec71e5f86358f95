use Rattle.std.proofs.Common.{◌≡◌, ◌++◌, drop, map}
use Rattle.mcf_answer_rows.specs.Lines.{rows_text}
use Rattle.mcf_answer_rows.specs.FormRows.{lacking_row}
use Rattle.mcf_answer_rows.proofs.filled.put_lacking.Given as goal

abbrev pub invariant-loop-place : goal.invariant-loop-place
invariant-loop-place l =
    l.out.items ++ rows_text (map lacking_row (drop l.place l.numbers)) ≡ l.initial.out.items ++ rows_text (map lacking_row l.numbers)
