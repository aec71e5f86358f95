use Rattle.std.proofs.Common.{◌≡◌, ◌++◌, map, length, ◌-◌}
use Rattle.std.specs.List.{range_with_len}
use Rattle.mcf_plan_rows.specs.PlanRows.{place_row}
use Rattle.mcf_answer_rows.specs.Lines.{rows_text}
use Rattle.mcf_plan_rows.proofs.plan_rows.put_places.Given as goal

abbrev pub invariant-loop-place : goal.invariant-loop-place
invariant-loop-place l =
    l.out.items ++ rows_text (map (place_row l.scales l.places l.plan.stays.items l.plan.missing.items l.told) (range_with_len l.place (length l.plan.stays.items - l.place)))
    ≡ l.initial.out.items ++ rows_text (map (place_row l.scales l.places l.plan.stays.items l.plan.missing.items l.told) (range_with_len 0 (length l.plan.stays.items)))
