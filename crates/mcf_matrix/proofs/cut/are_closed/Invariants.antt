use Rattle.std.proofs.Common.{ℕ, ◌<◌, IsSome}
use Rattle.mcf_matrix.specs.Cuts.{IsClosedMark}
use Rattle.mcf_matrix.specs.PlaceSums.{is_marked}
use Rattle.mcf_matrix.proofs.cut.are_closed.Given as goal

abbrev pub invariant-loop-row : goal.invariant-loop-row
invariant-loop-row g l =
    (i j : ℕ) → i < l.row → j < (g.M.Allows.costs l.matrix).columns → IsSome ((g.M.Allows.costs l.matrix).cost i j)
    → IsClosedMark (is_marked l.rows i) (is_marked l.columns j) l.side
