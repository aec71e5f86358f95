use Rattle.mcf_range_text.specs.SupplyRangeTexts.{IsSupplyRange}
use Rattle.mcf_range_text.proofs.AreFirsts.{AreFirst}
use Rattle.mcf_range_text.proofs.supplies.supply_ranges.Given as goal

abbrev pub invariant-loop-place : goal.invariant-loop-place
invariant-loop-place g l = AreFirst (IsSupplyRange l.planner l.least.shown) l.place l.made.items
