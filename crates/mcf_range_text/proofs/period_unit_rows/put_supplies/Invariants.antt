use Rattle.std.proofs.Common.{◌≡◌, ◌++◌, ◌-◌, length}
use Rattle.std.specs.List.{flat_map, range_with_len}
use Rattle.mcf_answer_rows.specs.Lines.{rows_text}
use Rattle.mcf_period_text.specs.TimedTables.{timed_in}
use Rattle.mcf_range_text.specs.PeriodUnitTexts.{period_supply_at, period_supply_rows}
use Rattle.mcf_range_text.proofs.period_unit_rows.put_supplies.Given as goal

abbrev pub invariant-loop-place : goal.invariant-loop-place
invariant-loop-place l =
    let t = timed_in l.timed in
    l.out.items
    ++ rows_text (flat_map (period_supply_at t l.scales l.ranges) (range_with_len l.place (length t.origins.places.items - l.place)))
    ≡ l.initial.out.items ++ rows_text (period_supply_rows t l.scales l.ranges)
