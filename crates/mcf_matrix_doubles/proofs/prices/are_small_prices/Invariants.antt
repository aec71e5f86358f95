use Rattle.std.proofs.Common.{ℕ, ◌-◌, ◌<◌, ◌^◌}
use Rattle.mcf_flows.specs.WellFormed.{IsUpTo}
use Rattle.mcf_matrix.specs.PlaceSums.{at_place}
use Rattle.mcf_matrix_doubles.proofs.prices.are_small_prices.Given as goal

abbrev pub invariant-loop-price : goal.invariant-loop-price
invariant-loop-price l = (i : ℕ) → i < l.price-index → IsUpTo (2 ^ 125 - 1) (at_place l.prices i)
