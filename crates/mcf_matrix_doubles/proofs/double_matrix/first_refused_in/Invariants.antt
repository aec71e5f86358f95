use Rattle.std.proofs.Common.{ℕ, ◌<◌, get_or}
use Rattle.mcf_matrix_doubles.specs.Doubles.{IsEntry}
use Rattle.mcf_matrix_doubles.proofs.double_matrix.first_refused_in.Given as goal

abbrev pub invariant-loop-column : goal.invariant-loop-column
invariant-loop-column l = (j : ℕ) → j < l.column → IsEntry (get_or l.row j 0)
