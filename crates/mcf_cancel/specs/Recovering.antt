-- What is recovered from a state.
-- Source: own
use Rattle.mcf_flows.specs.Flow.{AreGreatestPrices}
use Rattle.mcf_flows.specs.Network.{Network}
use Rattle.mcf_network.specs.States.{Pseudoflow}
use Rattle.mcf_cancel.specs.declared.recovered.Recovered.{Recovered}
use Rattle.mcf_cancel.specs.declared.recovered.Recovered.TheVariants.{Prices, Cycle}
use Rattle.mcf_engine.specs.NegativeCycles.{IsNegativeCycle}
use Rattle.mcf_engine.specs.SmallPrices.{AreSmallPrices}

-- the greatest prices that show the amounts, or a negative cycle
-- Source: AMO 9.3, greatest own
abbrev pub IsRecovered : Pseudoflow → Recovered → Type 0
IsRecovered s (Prices prices) = AreGreatestPrices s.net prices.items s.amounts
IsRecovered s (Cycle walk) = IsNegativeCycle s walk.items

-- small prices, where there are some
abbrev pub HasSmallPrices : Network → Recovered → Type 0
HasSmallPrices g (Prices prices) = AreSmallPrices g prices.items
HasSmallPrices g (Cycle walk) = Unit {0}
