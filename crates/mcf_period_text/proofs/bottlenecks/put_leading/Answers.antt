use Rattle.std.proofs.Common.{rules, length}
use Rattle.std.specs.List.{flat_map, range_with_len}
use Rattle.mcf_answer_rows.proofs.RowTexts.{two_put}
use Rattle.mcf_period_text.specs.PeriodBottleneckRows.{departure_led_rows, store_led_rows}
use Rattle.mcf_period_text.specs.TimedTables.{timed_in}
use Rattle.mcf_period_text.proofs.bottlenecks.put_leading.Goals as goal

pub returns : goal.returns
returns c =
    let t = timed_in c.args.timed in
    let b = c.args.blocked in
    two_put c.put_stores.result c.args.out.now.items c.put_departures.new.out.items c.put_stores.new.out.items
    (flat_map (departure_led_rows t b.planner.now b.scales b.bottleneck.now) (range_with_len 0 (length t.origins.departures.items)))
    (flat_map (store_led_rows t b.planner.now b.scales b.bottleneck.now) (range_with_len 0 (length t.origins.stores.items)))
    (search rules) (search rules)
