use Rattle.std.proofs.Common.{◌≡◌, ◌++◌, drop, map}
use Rattle.mcf_answer_rows.specs.Lines.{rows_text}
use Rattle.mcf_period_text.specs.PeriodFaultRows.{period_planner_row}
use Rattle.mcf_period_text.specs.TimedTables.{timed_in}
use Rattle.mcf_period_text.proofs.faults.put_period_planner_faults.Given as goal

abbrev pub invariant-loop-place : goal.invariant-loop-place
invariant-loop-place l =
    l.out.items ++ rows_text (map (period_planner_row (timed_in l.timed)) (drop l.place l.faults))
    ≡ l.initial.out.items ++ rows_text (map (period_planner_row (timed_in l.timed)) l.faults)
