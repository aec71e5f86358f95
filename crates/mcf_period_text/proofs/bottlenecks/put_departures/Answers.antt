use Rattle.std.proofs.Common.{rules, ◌≡◌, ◌++◌, ◌<◌, length}
use Rattle.mcf_answer_rows.proofs.RowTexts.{sets_step}
use Rattle.mcf_answer_rows.specs.Lines.{rows_text}
use Rattle.mcf_period_text.specs.PeriodBottleneckRows.{departure_led_rows}
use Rattle.mcf_period_text.specs.TimedTables.{timed_in}
use Rattle.mcf_period_text.proofs.bottlenecks.put_departures.Goals as goal

pub loop-place-preserved : goal.loop-place-preserved
loop-place-preserved c =
    let t = timed_in c.args.timed in
    let b = c.args.blocked in
    let rows = departure_led_rows t b.planner.now b.scales b.bottleneck.now in
    let small : c.loop-place.place < length t.origins.departures.items = search rules in
    let put : c.put_departure.new.out.items ≡ c.loop-place.out.items ++ rows_text (rows c.loop-place.place) = search rules in
    sets_step rows _ _ _ c.loop-place.place (length t.origins.departures.items) small c.loop-place.invariant put
