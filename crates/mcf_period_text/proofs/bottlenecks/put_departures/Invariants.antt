use Rattle.std.proofs.Common.{◌≡◌, ◌++◌, length, ◌-◌}
use Rattle.std.specs.List.{flat_map, range_with_len}
use Rattle.mcf_answer_rows.specs.Lines.{rows_text}
use Rattle.mcf_period_text.specs.PeriodBottleneckRows.{departure_led_rows}
use Rattle.mcf_period_text.specs.TimedTables.{timed_in}
use Rattle.mcf_period_text.proofs.bottlenecks.put_departures.Given as goal

abbrev pub invariant-loop-place : goal.invariant-loop-place
invariant-loop-place l =
    let t = timed_in l.timed in
    let b = l.blocked in
    l.out.items ++ rows_text (flat_map (departure_led_rows t b.planner.now b.scales b.bottleneck.now) (range_with_len l.place (length t.origins.departures.items - l.place)))
    ≡ l.initial.out.items ++ rows_text (flat_map (departure_led_rows t b.planner.now b.scales b.bottleneck.now) (range_with_len 0 (length t.origins.departures.items)))
