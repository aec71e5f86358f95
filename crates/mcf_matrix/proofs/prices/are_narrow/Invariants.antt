use Rattle.std.proofs.Common.{ℕ, ◌<◌, IsTrue}
use Rattle.mcf_matrix.specs.PlaceSums.{at_place}
use Rattle.mcf_matrix.specs.Private.Narrow.{IsNarrow}
use Rattle.mcf_matrix.proofs.prices.are_narrow.Given as goal

abbrev pub invariant-loop-price : goal.invariant-loop-price
invariant-loop-price l = IsTrue l.narrow → (j : ℕ) → j < l.price-index → IsNarrow (at_place l.prices j)
