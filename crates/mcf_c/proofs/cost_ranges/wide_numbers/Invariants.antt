use Rattle.std.proofs.Common.{◌≡◌, take}
use Rattle.std.specs.List.{All}
use Rattle.mcf_engine.specs.SmallPrices.{price_limit}
use Rattle.mcf_flows.specs.WellFormed.{IsUpTo}
use Rattle.mcf_c.proofs.cost_ranges.wide_numbers.Given as goal

abbrev pub invariant-loop-place : goal.invariant-loop-place
invariant-loop-place l = record {
  value : l.wide.items ≡ take l.place l.numbers;
  small : All (IsUpTo price_limit) l.wide.items;
}
