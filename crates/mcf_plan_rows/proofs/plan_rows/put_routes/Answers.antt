use Rattle.std.proofs.Common.{rules, ◌≡◌, ◌++◌, ◌<◌}
use Rattle.mcf_answer_rows.specs.Lines.{row_line}
use Rattle.mcf_plan_rows.specs.PlanRows.{route_row}
use Rattle.mcf_answer_rows.proofs.RowTexts.{rows_step}
use Rattle.mcf_plan_rows.proofs.plan_rows.put_routes.Goals as goal

pub loop-place-preserved : goal.loop-place-preserved
loop-place-preserved c =
    let small : c.loop-place.place < c.row_count-count.result = search rules in
    let put : c.put_route.new.out.items ≡ c.loop-place.out.items ++ row_line (route_row c.args.scales c.args.routes.now c.args.ways.carries.now c.args.ways.told.now c.loop-place.place) = search rules in
    rows_step (route_row c.args.scales c.args.routes.now c.args.ways.carries.now c.args.ways.told.now) _ _ _ c.loop-place.place (c.row_count-count.result) small c.loop-place.invariant put
