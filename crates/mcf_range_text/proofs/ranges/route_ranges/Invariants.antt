use Rattle.mcf_range_text.specs.PeriodRangeTexts.{IsRouteRange}
use Rattle.mcf_range_text.proofs.AreFirsts.{AreFirst}
use Rattle.mcf_range_text.proofs.ranges.route_ranges.Given as goal

abbrev pub invariant-loop-place : goal.invariant-loop-place
invariant-loop-place l = AreFirst (IsRouteRange l.planner l.least) l.place l.made.items
