-- What an engine answers.
-- Source: own
use Rattle.std.specs.Prelude.{⊤, ℤ, List}
use Rattle.mcf_flows.specs.Flow.{AreGreatestPrices, IsLeast}
use Rattle.mcf_flows.specs.Network.{Network}
use Rattle.mcf_network.specs.States.{IsFeasibleState, Pseudoflow}
use Rattle.mcf_network.specs.Chosen.{IsChosenBlock}
use Rattle.mcf_engine.specs.declared.engine.Outcome.{Outcome}
use Rattle.mcf_engine.specs.declared.engine.Outcome.TheVariants.{Least, Blocked}
use Rattle.mcf_engine.specs.SmallPrices.{AreSmallPrices}

-- a state of the net without surplus, such that no feasible flow of the net costs less
-- Source: AMO 9.3
pub record IsLeastState (g : Network) (s : Pseudoflow) : Type 0 where
  pub feasible : IsFeasibleState g s
  pub least : IsLeast g s.amounts

-- the greatest prices not above 0 that show the amounts of a state, within n - 1 times the greatest
-- absolute value of a cost
pub record AreStatePrices (g : Network) (s : Pseudoflow) (prices : List ℤ) : Type 0 where
  pub greatest : AreGreatestPrices g prices s.amounts
  pub small : AreSmallPrices g prices

-- a least state, made as told, with its prices; or a node set that blocks, of which it isn't told
-- how it was found
abbrev pub IsOutcome : (Pseudoflow → Type 0) → Network → Outcome → Type 0
IsOutcome IsMade g (Least s prices) = IsLeastState g s × AreStatePrices g s prices.items × IsMade s
IsOutcome IsMade g (Blocked table side) = IsChosenBlock g table side

-- what holds where the answer is a node set
-- Source: own
abbrev pub IfBlocked : Type 0 → Outcome → Type 0
IfBlocked Holds (Least s prices) = ⊤
IfBlocked Holds (Blocked table side) = Holds
