use Rattle.std.proofs.Common.{ℕ, ◌<◌, get_or, ltb}
use Rattle.mcf_matrix.specs.Judging.{IsPricedPlace}
use Rattle.mcf_matrix.specs.PlaceSums.{at_place}
use Rattle.mcf_matrix.proofs.showing.rows_are_priced.Given as goal

abbrev pub invariant-loop-row : goal.invariant-loop-row
invariant-loop-row g l =
    (i : ℕ) → i < l.row → IsPricedPlace (at_place (g.P.Priced.row_prices l.priced) i) (ltb (get_or l.columns_of i 0) (g.P.Priced.costs l.priced).columns)
