-- How far from 0 prices lie, whatever flow they show.
-- Source: own
use Rattle.std.specs.Prelude.{ℕ, ◌*◌, ◌-◌, ◌^◌, List, ℤ}
use Rattle.std.specs.List.{All}
use Rattle.mcf_flows.specs.Network.{Network, node_count}
use Rattle.mcf_flows.specs.WellFormed.{IsUpTo}

-- the cost of no arc is of a greater size
abbrev pub AreCostsUpTo : ℕ → Network → Type 0
AreCostsUpTo size g = All (λ a. IsUpTo size a.cost) g.arcs

-- with n nodes, prices within n - 1 times any size that no cost exceeds: a shortest walk has fewer
-- arcs than there are nodes
abbrev pub AreSmallPrices : Network → List ℤ → Type 0
AreSmallPrices g prices = (size : ℕ) → AreCostsUpTo size g → All (IsUpTo ((node_count g - 1) * size)) prices

-- the greatest absolute value of a small price of a net, whatever its costs are
abbrev pub price_limit : ℕ
price_limit = 10 ^ 21
