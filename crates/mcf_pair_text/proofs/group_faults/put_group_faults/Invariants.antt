use Rattle.std.proofs.Common.{◌≡◌, ◌++◌, drop, map}
use Rattle.mcf_answer_rows.specs.Lines.{rows_text}
use Rattle.mcf_pair_text.specs.GroupFaultRows.{group_row}
use Rattle.mcf_pair_text.proofs.group_faults.put_group_faults.Given as goal

abbrev pub invariant-loop-place : goal.invariant-loop-place
invariant-loop-place l = l.out.items ++ rows_text (map (group_row l.records) (drop l.place l.faults)) ≡ l.initial.out.items ++ rows_text (map (group_row l.records) l.faults)
