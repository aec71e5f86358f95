use Rattle.std.proofs.Common.{◌≡◌, ◌++◌, map, ◌-◌, length}
use Rattle.std.specs.List.{range_with_len}
use Rattle.mcf_answer_rows.specs.Lines.{rows_text}
use Rattle.mcf_period_text.specs.PeriodPlanRows.{keep_row_at, keep_rows}
use Rattle.mcf_period_text.specs.TimedTables.{timed_in}
use Rattle.mcf_period_text.proofs.plans.put_stores.Given as goal

abbrev pub invariant-loop-place : goal.invariant-loop-place
invariant-loop-place l =
    let t = timed_in l.timed in
    l.out.items
    ++ rows_text (map (keep_row_at t l.scales l.ways.carries.now l.ways.told.now) (range_with_len l.place (length t.origins.stores.items - l.place)))
    ≡ l.initial.out.items ++ rows_text (keep_rows t l.scales l.ways.carries.now l.ways.told.now)
