use Rattle.std.proofs.Common.{ℕ, ◌<◌}
use Rattle.mcf_matrix.specs.Costs.{HasSmallCost}
use Rattle.mcf_matrix.specs.Tables.{whole_costs}
use Rattle.mcf_matrix.proofs.matrix.first_beyond.Given as goal

abbrev pub invariant-loop-row : goal.invariant-loop-row
invariant-loop-row l =
    (i j : ℕ) → i < l.row → j < l.columns → HasSmallCost (whole_costs (record { entries = l.costs; rows = l.rows; columns = l.columns; stride = l.stride })) i j
