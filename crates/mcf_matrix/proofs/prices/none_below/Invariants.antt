use Rattle.std.proofs.Common.{ℕ, ◌<◌, IfSome, pos, ◌≤ℤ◌}
use Rattle.mcf_matrix.specs.MatrixPrices.{reduced_cost}
use Rattle.mcf_matrix.specs.Tables.{whole_costs}
use Rattle.mcf_matrix.proofs.prices.none_below.Given as goal

abbrev pub invariant-loop-row : goal.invariant-loop-row
invariant-loop-row l =
    (i j : ℕ) → i < l.row → j < l.matrix.columns → IfSome ((whole_costs l.matrix).cost i j) (λ c. pos 0 ≤ℤ reduced_cost l.row_prices l.column_prices i j c)
