use Rattle.std.proofs.Common.{ℕ, ◌<◌}
use Rattle.mcf_matrix_doubles.specs.DoubleTables.{bits_at}
use Rattle.mcf_matrix_doubles.specs.Doubles.{IsEntry}
use Rattle.mcf_matrix_doubles.proofs.double_matrix.first_refused.Given as goal

abbrev pub invariant-loop-row : goal.invariant-loop-row
invariant-loop-row l =
    (i j : ℕ) → i < l.row → j < l.columns → IsEntry (bits_at (record { entries = l.bits; rows = l.rows; columns = l.columns; stride = l.stride }) i j)
