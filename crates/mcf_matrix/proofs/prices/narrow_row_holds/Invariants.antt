use Rattle.std.proofs.Common.{ℕ, ◌<◌, ◌↔◌, IfSome, IsTrue, pos, ◌-ℤ◌, ◌≤ℤ◌}
use Rattle.mcf_matrix.specs.PlaceSums.{at_place}
use Rattle.mcf_matrix.specs.Tables.{cost_of}
use Rattle.mcf_matrix.proofs.prices.narrow_row_holds.Given as goal

abbrev pub invariant-loop-column : goal.invariant-loop-column
invariant-loop-column l =
    IsTrue l.holds ↔ ((j : ℕ) → j < l.column → IfSome (cost_of (at_place l.row j)) (λ c. pos 0 ≤ℤ (c -ℤ l.price -ℤ at_place l.prices j)))
