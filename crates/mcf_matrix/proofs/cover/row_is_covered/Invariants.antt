use Rattle.std.proofs.Common.{◌≡◌, ℕ, ◌<◌, ◌↔◌, IsSome, IsTrue}
use Rattle.mcf_matrix.specs.PlaceSums.{at_place, is_marked}
use Rattle.mcf_matrix.specs.Tables.{cost_of}
use Rattle.mcf_matrix.proofs.cover.row_is_covered.Given as goal

abbrev pub invariant-loop-column : goal.invariant-loop-column
invariant-loop-column l =
    IsTrue l.covered ↔ ((j : ℕ) → j < l.column → IsSome (cost_of (at_place l.row j)) → is_marked l.columns j ≡ l.mark)
