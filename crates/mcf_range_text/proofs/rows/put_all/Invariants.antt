use Rattle.std.proofs.Common.{◌≡◌, ◌+◌, ◌++◌, drop}
use Rattle.mcf_answer_rows.specs.Lines.{rows_text}
use Rattle.mcf_range_text.specs.RangeTexts.{told_rows}
use Rattle.mcf_range_text.proofs.rows.put_all.Given as goal

abbrev pub invariant-loop-place : goal.invariant-loop-place
invariant-loop-place l =
    l.out.items ++ rows_text (told_rows l.scales l.routes (l.place + 1) (drop l.place l.ranges))
    ≡ l.initial.out.items ++ rows_text (told_rows l.scales l.routes 1 l.ranges)
