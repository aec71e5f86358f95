-- The law of the limits.
-- Source: own
use Rattle.std.specs.Prelude.{◌≡◌, ℕ, List, Ok}
use Rattle.mcf_flows.specs.Limits.{limits, former_limits}
use Rattle.mcf_flows.specs.Network.{Network}
use Rattle.mcf_instance.specs.Reading.{reading}

-- a text without a fault under the former limits has none under the limits, and is the same
-- instance
abbrev pub FormerInstancesStay : Type 0
FormerInstancesStay = (text : List ℕ) (g : Network) → reading former_limits text ≡ Ok g → reading limits text ≡ Ok g
