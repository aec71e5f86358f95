use Rattle.std.proofs.Common.{ℕ, ◌<◌, IfSome, pos, ◌≤ℤ◌}
use Rattle.mcf_matrix.specs.MatrixPrices.{reduced_cost}
use Rattle.mcf_matrix_doubles.specs.DoublePrices.{in_units}
use Rattle.mcf_matrix_doubles.specs.DoubleTables.{double_costs}
use Rattle.mcf_matrix_doubles.proofs.prices.none_below.Given as goal

abbrev pub invariant-loop-row : goal.invariant-loop-row
invariant-loop-row l =
    (i j : ℕ) → i < l.row → j < l.matrix.columns
    → IfSome ((double_costs l.matrix).cost i j) (λ c. pos 0 ≤ℤ reduced_cost (in_units l.unit l.row_prices) (in_units l.unit l.column_prices) i j c)
