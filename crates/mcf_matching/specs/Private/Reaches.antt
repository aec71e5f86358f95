-- How far from 0 the numbers of a search lie: multiples of what a path of the net costs at most,
-- each for what is made of those before it.
use Rattle.std.specs.Prelude.{ℕ, ◌*◌, ◌≤◌, ℤ, pos, neg_ℤ, ◌+ℤ◌}
use Rattle.mcf_flows.specs.Network.{Network, node_count}
use Rattle.mcf_flows.specs.WellFormed.{IsUpTo}
use Rattle.mcf_network.specs.Nets.{greatest_cost}

-- what a path costs at most
unfoldable pub path_cost : Network → ℕ
path_cost g = node_count g * greatest_cost g.arcs

-- the price of a node of a matching
abbrev pub price_reach : Network → ℕ
price_reach g = 8 * path_cost g

-- the distance of a settled row
abbrev pub row_reach : Network → ℕ
row_reach g = 18 * path_cost g

-- that distance less the price of the row
abbrev pub base_reach : Network → ℕ
base_reach g = 26 * path_cost g

-- a distance at which a search ends
abbrev pub target_reach : Network → ℕ
target_reach g = 20 * path_cost g

-- numbers that may lie so far from 0 have room for every sum of a search
abbrev pub HasWidth : ℕ → Network → Type 0
HasWidth room g = 64 * path_cost g ≤ room

-- the price with which each row begins: so far below 0 that no arc has a negative reduced cost
abbrev pub first_price : Network → ℤ
first_price g = neg_ℤ (pos (greatest_cost g.arcs))

-- a price and its rise, and both together, have room
abbrev pub CanRise : ℕ → ℤ → ℤ → Type 0
CanRise room price rise = IsUpTo room rise × IsUpTo room (price +ℤ rise)
