use Rattle.std.proofs.Common.{rules, ◌≡◌, ◌++◌, ◌<◌, length}
use Rattle.mcf_answer_rows.proofs.RowTexts.{rows_step}
use Rattle.mcf_answer_rows.specs.Lines.{row_line}
use Rattle.mcf_period_text.specs.PeriodPlanRows.{place_row_at}
use Rattle.mcf_period_text.specs.TimedTables.{timed_in}
use Rattle.mcf_period_text.proofs.plans.put_places.Goals as goal

pub loop-place-preserved : goal.loop-place-preserved
loop-place-preserved c =
    let t = timed_in c.args.timed in
    let row = place_row_at t c.args.scales c.args.plan.now.stays.items c.args.plan.now.missing.items c.args.told.now in
    let small : c.loop-place.place < length t.origins.places.items = search rules in
    let put : c.put_place.new.out.items ≡ c.loop-place.out.items ++ row_line (row c.loop-place.place) = search rules in
    rows_step row _ _ _ c.loop-place.place (length t.origins.places.items) small c.loop-place.invariant put
