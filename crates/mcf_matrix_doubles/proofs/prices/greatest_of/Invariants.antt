use Rattle.std.proofs.Common.{ℕ, ◌-◌, ◌<◌, ◌^◌, ◌≤ℤ◌}
use Rattle.mcf_flows.specs.WellFormed.{IsUpTo}
use Rattle.mcf_matrix.specs.PlaceSums.{at_place}
use Rattle.mcf_matrix_doubles.proofs.prices.greatest_of.Given as goal

abbrev pub invariant-loop-price : goal.invariant-loop-price
invariant-loop-price l = IsUpTo (2 ^ 125 - 1) l.greatest × ((j : ℕ) → j < l.price-index → at_place l.prices j ≤ℤ l.greatest)
