use Rattle.std.proofs.Common.{take}
use Rattle.std.specs.List.{All}
use Rattle.mcf_unit_ranges.specs.Told.{HasSmallSpan}
use Rattle.mcf_unit_ranges.proofs.spans.are_small_spans.Given as goal

abbrev pub invariant-loop-place : goal.invariant-loop-place
invariant-loop-place l = All (HasSmallSpan l.prices) (take l.place l.model.routes)
