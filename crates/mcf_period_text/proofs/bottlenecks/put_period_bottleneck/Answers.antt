use Rattle.std.proofs.Common.{rules, ◌++◌, length}
use Rattle.std.specs.List.{flat_map, range_with_len}
use Rattle.mcf_plan_rows.proofs.TableTexts.{sets_put}
use Rattle.mcf_plan_rows.specs.BottleneckRows.{side_rows}
use Rattle.mcf_period_text.specs.PeriodBottleneckRows.{departure_led_rows, store_led_rows, timed_set_rows}
use Rattle.mcf_period_text.specs.TimedTables.{timed_in}
use Rattle.mcf_period_text.proofs.bottlenecks.put_period_bottleneck.Goals as goal

pub returns : goal.returns
returns c =
    let t = timed_in c.args.timed in
    let b = c.args.blocked in
    sets_put c.put_leading.result c.args.out.now.items c.put_side.new.out.items c.put_members.new.out.items c.put_leading.new.out.items
    (side_rows b.planner.now b.scales b.bottleneck.now)
    (flat_map (timed_set_rows t b.planner.now b.scales b.bottleneck.now) (range_with_len 0 (length b.bottleneck.now.entries.items)))
    (flat_map (departure_led_rows t b.planner.now b.scales b.bottleneck.now) (range_with_len 0 (length t.origins.departures.items))
    ++ flat_map (store_led_rows t b.planner.now b.scales b.bottleneck.now) (range_with_len 0 (length t.origins.stores.items)))
    (search rules) (search rules) (search rules)
