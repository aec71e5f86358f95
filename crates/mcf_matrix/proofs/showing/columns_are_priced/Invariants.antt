use Rattle.std.proofs.Common.{ℕ, ◌<◌}
use Rattle.mcf_matrix.specs.Judging.{IsPricedPlace}
use Rattle.mcf_matrix.specs.PlaceSums.{at_place, is_marked}
use Rattle.mcf_matrix.proofs.showing.columns_are_priced.Given as goal

abbrev pub invariant-loop-column : goal.invariant-loop-column
invariant-loop-column g l = (j : ℕ) → j < l.column → IsPricedPlace (at_place (g.P.Priced.column_prices l.priced) j) (is_marked l.seen j)
