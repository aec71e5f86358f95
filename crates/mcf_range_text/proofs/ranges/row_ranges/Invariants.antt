use Rattle.mcf_range_text.specs.RangeTexts.{IsRowRange}
use Rattle.mcf_range_text.proofs.AreFirsts.{AreFirst}
use Rattle.mcf_range_text.proofs.ranges.row_ranges.Given as goal

abbrev pub invariant-loop-place : goal.invariant-loop-place
invariant-loop-place l = AreFirst (IsRowRange l.planner l.least) l.place l.made.items
