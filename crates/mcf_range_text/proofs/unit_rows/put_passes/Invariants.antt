use Rattle.std.proofs.Common.{◌≡◌, ◌++◌, ◌-◌, length}
use Rattle.std.specs.List.{flat_map, range_with_len}
use Rattle.mcf_answer_rows.specs.Lines.{rows_text}
use Rattle.mcf_range_text.specs.PassRangeTexts.{pass_range_at, pass_range_rows}
use Rattle.mcf_range_text.proofs.unit_rows.put_passes.Given as goal

abbrev pub invariant-loop-place : goal.invariant-loop-place
invariant-loop-place l =
    l.out.items ++ rows_text (flat_map (pass_range_at l.scales l.places l.ranges) (range_with_len l.place (length l.ranges - l.place)))
    ≡ l.initial.out.items ++ rows_text (pass_range_rows l.scales l.places l.ranges)
