use Rattle.std.proofs.Common.{rules, ◌≡◌, ◌++◌, ◌<◌, drop, length}
use Rattle.mcf_answer_rows.proofs.RowTexts.{rows_step}
use Rattle.mcf_answer_rows.specs.Lines.{row_line}
use Rattle.mcf_period_text.specs.PeriodPlanRows.{departure_row_at}
use Rattle.mcf_period_text.specs.TimedTables.{timed_in}
use Rattle.mcf_period_text.proofs.plans.put_departures.Goals as goal

pub loop-place-preserved : goal.loop-place-preserved
loop-place-preserved c =
    let t = timed_in c.args.timed in
    let stores = length t.origins.stores.items in
    let row = departure_row_at t c.args.scales (drop stores c.args.ways.carries.now) (drop stores c.args.ways.told.now) in
    let small : c.loop-place.place < length t.origins.departures.items = search rules in
    let put : c.put_departure.new.out.items ≡ c.loop-place.out.items ++ row_line (row c.loop-place.place) = search rules in
    rows_step row _ _ _ c.loop-place.place (length t.origins.departures.items) small c.loop-place.invariant put
