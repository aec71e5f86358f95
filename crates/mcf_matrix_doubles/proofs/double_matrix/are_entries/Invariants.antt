use Rattle.std.proofs.Common.{ℕ, ◌<◌, ◌↔◌, IsTrue, get_or}
use Rattle.mcf_matrix_doubles.specs.Doubles.{IsEntry}
use Rattle.mcf_matrix_doubles.proofs.double_matrix.are_entries.Given as goal

abbrev pub invariant-loop-bits : goal.invariant-loop-bits
invariant-loop-bits l = IsTrue l.good ↔ ((j : ℕ) → j < l.bits-index → IsEntry (get_or l.row j 0))
