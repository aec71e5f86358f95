use Rattle.std.proofs.Common.{◌≡◌, ◌++◌, drop, map}
use Rattle.mcf_plan_rows.specs.FaultRows.{great_row, tables_in}
use Rattle.mcf_answer_rows.specs.Lines.{rows_text}
use Rattle.mcf_plan_rows.proofs.fault_rows.put_greats.Given as goal

abbrev pub invariant-loop-place : goal.invariant-loop-place
invariant-loop-place l =
    l.out.items ++ rows_text (map (great_row (tables_in l.two)) (drop l.place l.faults))
    ≡ l.initial.out.items ++ rows_text (map (great_row (tables_in l.two)) l.faults)
