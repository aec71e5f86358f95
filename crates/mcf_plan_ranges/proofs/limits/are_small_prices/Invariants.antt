use Rattle.std.proofs.Common.{take}
use Rattle.std.specs.List.{All}
use Rattle.mcf_engine.specs.SmallPrices.{price_limit}
use Rattle.mcf_flows.specs.WellFormed.{IsUpTo}
use Rattle.mcf_plan_ranges.proofs.limits.are_small_prices.Given as goal

abbrev pub invariant-loop-place : goal.invariant-loop-place
invariant-loop-place l = All (IsUpTo price_limit) (take l.place l.prices)
