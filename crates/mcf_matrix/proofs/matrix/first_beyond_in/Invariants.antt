use Rattle.std.proofs.Common.{ℕ, ◌<◌, get_or, pos}
use Rattle.mcf_matrix.specs.Tables.{IsSmallEntry}
use Rattle.mcf_matrix.proofs.matrix.first_beyond_in.Given as goal

abbrev pub invariant-loop-column : goal.invariant-loop-column
invariant-loop-column l = (j : ℕ) → j < l.column → IsSmallEntry (get_or l.row j (pos 0))
