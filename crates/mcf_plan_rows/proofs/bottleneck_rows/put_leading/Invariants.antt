use Rattle.std.proofs.Common.{◌≡◌, ◌++◌, length, ◌-◌}
use Rattle.std.specs.List.{flat_map, range_with_len}
use Rattle.mcf_plan_rows.specs.BottleneckRows.{route_led_rows}
use Rattle.mcf_plan_rows.specs.FaultRows.{tables_in}
use Rattle.mcf_answer_rows.specs.Lines.{rows_text}
use Rattle.mcf_plan_rows.proofs.bottleneck_rows.put_leading.Given as goal

abbrev pub invariant-loop-place : goal.invariant-loop-place
invariant-loop-place l =
    l.out.items ++ rows_text (flat_map (route_led_rows (tables_in l.two) l.blocked.planner.now l.blocked.scales l.blocked.bottleneck.now) (range_with_len l.place (length l.blocked.planner.now.routes - l.place)))
    ≡ l.initial.out.items ++ rows_text (flat_map (route_led_rows (tables_in l.two) l.blocked.planner.now l.blocked.scales l.blocked.bottleneck.now) (range_with_len 0 (length l.blocked.planner.now.routes)))
