-- A number that stands for the least of some, or for nothing.
use Rattle.std.specs.Prelude.{◌≡◌, ◌⊎◌, ℕ, List, ℤ, pos, ◌+ℤ◌, ◌≤ℤ◌, ◌<ℤ◌, Option, Some, None}
use Rattle.std.specs.Int.{int_min}
use Rattle.mcf_flows.specs.Network.{Network, at_node}
use Rattle.mcf_flows.specs.WellFormed.{IsUpTo}
use Rattle.mcf_network.specs.declared.rid.Rid.{Rid}
use Rattle.mcf_network.specs.Residual.{head}
use Rattle.mcf_network.specs.States.{Pseudoflow}
use Rattle.mcf_network.specs.Walks.{HasRoom}
use Rattle.mcf_scaling.specs.Optimality.{reduced_reach, rise_reach, scaled_cost}

-- more than any reduced cost
abbrev pub nothing : ℕ
nothing = rise_reach

-- the number is this one, below that; or it is none, and stands for nothing
abbrev pub StandsFor : ℤ → Option ℤ → Type 0
StandsFor x None = pos nothing ≤ℤ x
StandsFor x (Some y) = (x ≡ y) × (x <ℤ pos nothing)

-- the cost of a residual arc, times the number of nodes plus 1, plus the price of its head: its
-- reduced cost with the price of its tail
abbrev pub landed : Network → List ℤ → Rid → ℤ
landed g prices r = scaled_cost g r +ℤ at_node prices (head g r)

-- a residual arc with room lowers a number to that, and one without leaves it as it is
abbrev pub IsLowered : Pseudoflow → List ℤ → Rid → ℤ → ℤ → Type 0
IsLowered s prices r old new =
    ((¬ HasRoom s r) × (new ≡ old)) ⊎ (HasRoom s r × (new ≡ int_min old (landed s.net prices r)) × IsUpTo reduced_reach (landed s.net prices r))
