use Rattle.std.proofs.Common.{rules, ◌≡◌, ◌++◌, ◌<◌, length}
use Rattle.mcf_answer_rows.specs.Lines.{rows_text}
use Rattle.mcf_plan_rows.specs.BottleneckRows.{route_led_rows}
use Rattle.mcf_plan_rows.specs.FaultRows.{tables_in}
use Rattle.mcf_answer_rows.proofs.RowTexts.{sets_step}
use Rattle.mcf_plan_rows.proofs.bottleneck_rows.put_leading.Goals as goal

pub loop-place-preserved : goal.loop-place-preserved
loop-place-preserved c =
    let b = c.args.blocked in
    let rows = route_led_rows (tables_in c.args.two) b.planner.now b.scales b.bottleneck.now in
    let small : c.loop-place.place < length b.planner.now.routes = search rules in
    let put : c.put_route_led.new.out.items ≡ c.loop-place.out.items ++ rows_text (rows c.loop-place.place) = search rules in
    sets_step rows _ _ _ c.loop-place.place (length b.planner.now.routes) small c.loop-place.invariant put
