use Rattle.std.proofs.Common.{take}
use Rattle.std.specs.List.{All}
use Rattle.mcf_plan_ranges.specs.PlanRanges.{HasSmallCosts}
use Rattle.mcf_plan_ranges.proofs.limits.are_small_costs.Given as goal

abbrev pub invariant-loop-place : goal.invariant-loop-place
invariant-loop-place l = All HasSmallCosts (take l.place l.model.routes)
