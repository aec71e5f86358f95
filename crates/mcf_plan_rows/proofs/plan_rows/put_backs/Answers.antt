use Rattle.std.proofs.Common.{rules, ◌≡◌, ◌++◌, ◌<◌, drop, length}
use Rattle.mcf_places.specs.Planners.{row_count}
use Rattle.mcf_answer_rows.specs.Lines.{row_line}
use Rattle.mcf_plan_rows.specs.PlanRows.{back_row}
use Rattle.mcf_answer_rows.proofs.RowTexts.{rows_step}
use Rattle.mcf_plan_rows.proofs.plan_rows.put_backs.Goals as goal

pub loop-place-preserved : goal.loop-place-preserved
loop-place-preserved c =
    let rows = row_count c.args.planner.now in
    let carries = drop rows c.args.ways.carries.now in
    let told = drop rows c.args.ways.told.now in
    let small : c.loop-place.place < length c.args.planner.now.returning = search rules in
    let put : c.put_back.new.out.items ≡ c.loop-place.out.items ++ row_line (back_row c.args.scales c.args.routes.now carries told c.args.planner.now.returning c.loop-place.place) = search rules in
    rows_step (back_row c.args.scales c.args.routes.now carries told c.args.planner.now.returning) _ _ _ c.loop-place.place (length c.args.planner.now.returning) small c.loop-place.invariant put
