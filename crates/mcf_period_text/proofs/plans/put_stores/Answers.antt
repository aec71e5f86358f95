use Rattle.std.proofs.Common.{rules, ◌≡◌, ◌++◌, ◌<◌, length}
use Rattle.mcf_answer_rows.proofs.RowTexts.{rows_step}
use Rattle.mcf_answer_rows.specs.Lines.{row_line}
use Rattle.mcf_period_text.specs.PeriodPlanRows.{keep_row_at}
use Rattle.mcf_period_text.specs.TimedTables.{timed_in}
use Rattle.mcf_period_text.proofs.plans.put_stores.Goals as goal

pub loop-place-preserved : goal.loop-place-preserved
loop-place-preserved c =
    let t = timed_in c.args.timed in
    let row = keep_row_at t c.args.scales c.args.ways.carries.now c.args.ways.told.now in
    let small : c.loop-place.place < length t.origins.stores.items = search rules in
    let put : c.put_store.new.out.items ≡ c.loop-place.out.items ++ row_line (row c.loop-place.place) = search rules in
    rows_step row _ _ _ c.loop-place.place (length t.origins.stores.items) small c.loop-place.invariant put
