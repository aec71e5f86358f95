use Rattle.std.proofs.Common.{◌≡◌, ◌++◌, ◌-◌, length}
use Rattle.std.specs.List.{flat_map, range_with_len}
use Rattle.mcf_answer_rows.specs.Lines.{rows_text}
use Rattle.mcf_period_text.specs.TimedTables.{timed_in}
use Rattle.mcf_range_text.specs.PeriodUnitTexts.{period_pass_at, period_pass_rows}
use Rattle.mcf_range_text.proofs.period_unit_rows.put_passes.Given as goal

abbrev pub invariant-loop-place : goal.invariant-loop-place
invariant-loop-place l =
    let t = timed_in l.timed in
    l.out.items
    ++ rows_text (flat_map (period_pass_at t l.scales l.ranges) (range_with_len l.place (length t.origins.places.items - l.place)))
    ≡ l.initial.out.items ++ rows_text (period_pass_rows t l.scales l.ranges)
