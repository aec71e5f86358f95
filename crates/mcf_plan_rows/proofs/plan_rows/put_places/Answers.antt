use Rattle.std.proofs.Common.{rules, ◌≡◌, ◌++◌, ◌<◌, length}
use Rattle.mcf_answer_rows.specs.Lines.{row_line}
use Rattle.mcf_plan_rows.specs.PlanRows.{place_row}
use Rattle.mcf_answer_rows.proofs.RowTexts.{rows_step}
use Rattle.mcf_plan_rows.proofs.plan_rows.put_places.Goals as goal

pub loop-place-preserved : goal.loop-place-preserved
loop-place-preserved c =
    let small : c.loop-place.place < length c.args.plan.now.stays.items = search rules in
    let put : c.put_place.new.out.items ≡ c.loop-place.out.items ++ row_line (place_row c.args.scales c.args.places.now c.args.plan.now.stays.items c.args.plan.now.missing.items c.args.told.now c.loop-place.place) = search rules in
    rows_step (place_row c.args.scales c.args.places.now c.args.plan.now.stays.items c.args.plan.now.missing.items c.args.told.now) _ _ _ c.loop-place.place
    (length c.args.plan.now.stays.items) small c.loop-place.invariant put
