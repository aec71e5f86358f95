-- A law of greatest prices.
-- Source: own
use Rattle.std.specs.Prelude.{List, ℤ}
use Rattle.std.specs.List.{All}
use Rattle.mcf_flows.specs.Flow.{AreGreatestPrices}
use Rattle.mcf_flows.specs.WellFormed.{IsUpTo}
use Rattle.mcf_network.specs.States.{Pseudoflow, IsPseudoflow}
use Rattle.mcf_engine.specs.SmallPrices.{AreSmallPrices, price_limit}

-- the greatest prices not above 0 that show a state are small, and so within the limit of prices
abbrev pub GreatestPricesAreSmall : Type 0
GreatestPricesAreSmall =
    (s : Pseudoflow) (prices : List ℤ) → IsPseudoflow s → AreGreatestPrices s.net prices s.amounts
    → AreSmallPrices s.net prices × All (IsUpTo price_limit) prices
