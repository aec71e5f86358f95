use Rattle.std.proofs.Common.{◌≡◌, ℕ, ◌<◌, ◌↔◌, IsSome, IsTrue, get_or}
use Rattle.mcf_matrix.specs.PlaceSums.{is_marked}
use Rattle.mcf_matrix_doubles.specs.Doubles.{double_cost}
use Rattle.mcf_matrix_doubles.proofs.cover.row_is_covered.Given as goal

abbrev pub invariant-loop-column : goal.invariant-loop-column
invariant-loop-column l =
    IsTrue l.covered ↔ ((j : ℕ) → j < l.column → IsSome (double_cost (get_or l.row j 0)) → is_marked l.columns j ≡ l.mark)
