use Rattle.std.proofs.Common.{ℕ, ◌<◌, ◌↔◌, IsTrue, get_or, pos}
use Rattle.mcf_matrix.specs.Tables.{IsSmallEntry}
use Rattle.mcf_matrix.proofs.matrix.are_small.Given as goal

abbrev pub invariant-loop-cost : goal.invariant-loop-cost
invariant-loop-cost l = IsTrue l.small ↔ ((j : ℕ) → j < l.cost-index → IsSmallEntry (get_or l.row j (pos 0)))
