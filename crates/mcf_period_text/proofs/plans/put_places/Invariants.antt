use Rattle.std.proofs.Common.{◌≡◌, ◌++◌, map, ◌-◌, length}
use Rattle.std.specs.List.{range_with_len}
use Rattle.mcf_answer_rows.specs.Lines.{rows_text}
use Rattle.mcf_period_text.specs.PeriodPlanRows.{place_row_at, place_rows}
use Rattle.mcf_period_text.specs.TimedTables.{timed_in}
use Rattle.mcf_period_text.proofs.plans.put_places.Given as goal

abbrev pub invariant-loop-place : goal.invariant-loop-place
invariant-loop-place l =
    let t = timed_in l.timed in
    l.out.items
    ++ rows_text (map (place_row_at t l.scales l.plan.stays.items l.plan.missing.items l.told) (range_with_len l.place (length t.origins.places.items - l.place)))
    ≡ l.initial.out.items ++ rows_text (place_rows t l.scales l.plan.stays.items l.plan.missing.items l.told)
