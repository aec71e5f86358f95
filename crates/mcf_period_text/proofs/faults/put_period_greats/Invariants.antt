use Rattle.std.proofs.Common.{◌≡◌, ◌++◌, drop, map}
use Rattle.mcf_answer_rows.specs.Lines.{rows_text}
use Rattle.mcf_plan_rows.specs.FaultRows.{tables_in}
use Rattle.mcf_period_text.specs.PeriodFaultRows.{period_great_row}
use Rattle.mcf_period_text.proofs.faults.put_period_greats.Given as goal

abbrev pub invariant-loop-place : goal.invariant-loop-place
invariant-loop-place l =
    l.out.items ++ rows_text (map (period_great_row (tables_in l.two)) (drop l.place l.faults))
    ≡ l.initial.out.items ++ rows_text (map (period_great_row (tables_in l.two)) l.faults)
