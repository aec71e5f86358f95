use Rattle.std.proofs.Common.{◌≡◌, ◌++◌, map, ◌-◌}
use Rattle.std.specs.List.{range_with_len}
use Rattle.mcf_plan_rows.specs.PlanRows.{route_row, route_rows}
use Rattle.mcf_answer_rows.specs.Lines.{rows_text}
use Rattle.mcf_plan_rows.proofs.plan_rows.put_routes.Given as goal

abbrev pub invariant-loop-place : goal.invariant-loop-place
invariant-loop-place l =
    l.out.items ++ rows_text (map (route_row l.scales l.routes l.ways.carries.now l.ways.told.now) (range_with_len l.place (l.count - l.place)))
    ≡ l.initial.out.items ++ rows_text (route_rows l.planner l.scales l.routes l.ways.carries.now l.ways.told.now)
