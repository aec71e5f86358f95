use Rattle.std.proofs.Common.{take}
use Rattle.std.specs.List.{All}
use Rattle.mcf_flows.specs.Limits.{limits}
use Rattle.mcf_flows.specs.WellFormed.{IsUpTo}
use Rattle.mcf_plan_ranges.proofs.limits.are_small_steps.Given as goal

abbrev pub invariant-loop-place : goal.invariant-loop-place
invariant-loop-place l = All (λ s. IsUpTo limits.cost s.cost) (take l.place l.own)
