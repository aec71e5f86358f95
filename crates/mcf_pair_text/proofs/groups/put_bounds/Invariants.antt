use Rattle.std.proofs.Common.{◌≡◌, ◌++◌, drop, map}
use Rattle.mcf_answer_rows.specs.Lines.{rows_text}
use Rattle.mcf_pair_text.specs.GroupRows.{book_in, bound_row}
use Rattle.mcf_pair_text.proofs.groups.put_bounds.Given as goal

abbrev pub invariant-loop-place : goal.invariant-loop-place
invariant-loop-place l = l.out.items ++ rows_text (map (bound_row (book_in l.tables)) (drop l.place l.bounds)) ≡ l.initial.out.items ++ rows_text (map (bound_row (book_in l.tables)) l.bounds)
