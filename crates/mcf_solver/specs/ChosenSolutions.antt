-- Which of several right flows the suite gives.
-- Source: own
use Rattle.std.specs.Prelude.{◌≡◌, List, ℤ, pos, int_lt, if◌then◌else◌}
use Rattle.std.specs.List.{AllZip}
use Rattle.mcf_flows.specs.declared.arc.Arc.{Arc}
use Rattle.mcf_flows.specs.Flow.{AreGreatestPrices}
use Rattle.mcf_flows.specs.Network.{Network}

-- a loop of negative cost carries its cap, every other loop its low
abbrev pub IsLoopAtBound : Arc → ℤ → Type 0
IsLoopAtBound a f = a.src ≡ a.dst → f ≡ (if int_lt a.cost (pos 0) then a.cap else a.low)

-- the prices are the greatest not above 0 that show the flow
pub record IsChosenFlow (g : Network) (prices flow : List ℤ) : Type 0 where
  pub greatest : AreGreatestPrices g prices flow
  pub loops : AllZip IsLoopAtBound g.arcs flow
