use Rattle.std.proofs.Common.{◌≡◌, ◌++◌, map, drop, length, ◌-◌}
use Rattle.std.specs.List.{range_with_len}
use Rattle.mcf_places.specs.Planners.{row_count}
use Rattle.mcf_plan_rows.specs.PlanRows.{back_row, back_rows}
use Rattle.mcf_answer_rows.specs.Lines.{rows_text}
use Rattle.mcf_plan_rows.proofs.plan_rows.put_backs.Given as goal

abbrev pub invariant-loop-place : goal.invariant-loop-place
invariant-loop-place l =
    l.out.items ++ rows_text (map (back_row l.scales l.routes (drop (row_count l.planner) l.ways.carries.now) (drop (row_count l.planner) l.ways.told.now) l.planner.returning) (range_with_len l.place (length l.planner.returning - l.place)))
    ≡ l.initial.out.items ++ rows_text (back_rows l.planner l.scales l.routes l.ways.carries.now l.ways.told.now)
