use Rattle.std.proofs.Common.{◌≡◌, ◌++◌, drop, map}
use Rattle.mcf_answer_rows.specs.Lines.{rows_text}
use Rattle.mcf_pair_text.specs.GroupRows.{book_in}
use Rattle.mcf_pair_text.specs.GroupFaultRows.{crossing_fault_row}
use Rattle.mcf_pair_text.proofs.group_faults.put_crossing_faults.Given as goal

abbrev pub invariant-loop-place : goal.invariant-loop-place
invariant-loop-place l = l.out.items ++ rows_text (map (crossing_fault_row (book_in l.tables)) (drop l.place l.crossings)) ≡ l.initial.out.items ++ rows_text (map (crossing_fault_row (book_in l.tables)) l.crossings)
