use Rattle.std.proofs.Common.{ℕ, ◌<◌, ◌⊎◌, IsSome, IsTrue}
use Rattle.mcf_matrix.specs.PlaceSums.{is_marked}
use Rattle.mcf_matrix.proofs.cover.are_covered.Given as goal

abbrev pub invariant-loop-row : goal.invariant-loop-row
invariant-loop-row g l =
    (i j : ℕ) → i < l.row → j < (g.M.Allows.costs l.matrix).columns → IsSome ((g.M.Allows.costs l.matrix).cost i j)
    → IsTrue (is_marked l.rows i) ⊎ IsTrue (is_marked l.columns j)
