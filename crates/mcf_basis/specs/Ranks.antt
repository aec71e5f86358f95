-- How many pivots there can be: the pair of the cost and the sum of the prices as one number, and
-- its bounds.
-- Source: AMO 11.6, constants own
use Rattle.std.specs.Prelude.{ℕ, ◌+◌, ◌*◌, ℤ, pos, ◌+ℤ◌, ◌-ℤ◌, ◌*ℤ◌, ◌≤ℤ◌, unsigned_abs}
use Rattle.mcf_flows.specs.Flow.{cost}
use Rattle.mcf_flows.specs.Network.{Network, node_count}
use Rattle.mcf_network.specs.Nets.{greatest_cost}
use Rattle.mcf_network.specs.States.{Pseudoflow}
use Rattle.mcf_basis.specs.Artificial.{artificial_cost}
use Rattle.mcf_basis.specs.Bases.{IsFullFlow}
use Rattle.mcf_basis.specs.Pivots.{full_cost, price_sum}
use Rattle.mcf_basis.specs.Structures.{TreeStructure}

-- how far from 0 a price can lie: the path of the tree to the root has one artificial arc, and
-- fewer others than there are nodes
abbrev pub price_reach : Network → ℕ
price_reach g = artificial_cost g + node_count g * greatest_cost g.arcs

-- how far apart the sums of the prices of two bases can lie
abbrev pub price_span : Network → ℕ
price_span g = 2 * (node_count g * price_reach g)

-- the pair as one number: the cost times one more than the span, plus the sum of the prices; it
-- falls where the pair does
abbrev pub rank_of : TreeStructure → ℤ
rank_of b = full_cost b *ℤ pos (price_span b.net + 1) +ℤ price_sum b

-- no flow with artificial arcs costs less
abbrev pub IsFloor : Network → ℤ → Type 0
IsFloor g floor = (s : Pseudoflow) → IsFullFlow s g → floor ≤ℤ cost s.net.arcs s.amounts

-- the most pivots from a basis that costs so much more than the least cost: one for each value of
-- the rank on the way, at most
abbrev pub pivot_bound : Network → ℤ → ℤ
pivot_bound g excess = excess +ℤ (excess +ℤ pos 1) *ℤ pos (price_span g)

-- so many pivots from the first basis on are within the bound, for the least cost of a flow with
-- artificial arcs and for every cost below it
abbrev pub IsBounded : TreeStructure → ℕ → Type 0
IsBounded first pivots =
    (floor : ℤ) → IsFloor first.net floor → pos pivots ≤ℤ pivot_bound first.net (full_cost first -ℤ floor)

-- how far below 0 the rank of a basis can lie
abbrev pub rank_depth : Network → ℕ
rank_depth g = artificial_cost g * (price_span g + 1) + price_span g

-- the rank of a basis, counted from below all ranks
abbrev pub rank_above : TreeStructure → ℕ
rank_above b = unsigned_abs (rank_of b +ℤ pos (rank_depth b.net))
