use Rattle.std.proofs.Common.{rules, ◌≡◌, ◌++◌, ◌<◌, length}
use Rattle.mcf_answer_rows.proofs.RowTexts.{sets_step}
use Rattle.mcf_answer_rows.specs.Lines.{rows_text}
use Rattle.mcf_period_text.specs.TimedTables.{timed_in}
use Rattle.mcf_range_text.specs.PeriodUnitTexts.{period_supply_at}
use Rattle.mcf_range_text.proofs.period_unit_rows.put_supplies.Goals as goal

pub loop-place-preserved : goal.loop-place-preserved
loop-place-preserved c =
    let t = timed_in c.args.timed in
    let rows = period_supply_at t c.args.scales c.args.ranges.now in
    let small : c.loop-place.place < length t.origins.places.items = search rules in
    let put : c.put_supply.new.out.items ≡ c.loop-place.out.items ++ rows_text (rows c.loop-place.place) = search rules in
    sets_step rows _ _ _ c.loop-place.place (length t.origins.places.items) small c.loop-place.invariant put
