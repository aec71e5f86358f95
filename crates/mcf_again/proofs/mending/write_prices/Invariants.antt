use Rattle.std.proofs.Common.{◌≡◌, length}
use Rattle.std.specs.List.{All}
use Rattle.mcf_flows.specs.WellFormed.{IsUpTo}
use Rattle.mcf_engine.specs.NearPrices.{near_limit}
use Rattle.mcf_again.proofs.mending.write_prices.Given as goal

abbrev pub invariant-nodes : goal.invariant-nodes
invariant-nodes l = (length l.prices ≡ length l.fn.prices) × All (IsUpTo near_limit) l.prices
