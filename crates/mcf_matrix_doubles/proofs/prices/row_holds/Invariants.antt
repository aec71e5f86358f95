use Rattle.std.proofs.Common.{ℕ, ◌<◌, ◌^◌, ◌↔◌, IfSome, IsTrue, get_or, pos, ◌-ℤ◌, ◌≤ℤ◌}
use Rattle.std.proofs.Math.IntN.{◌*ℤ◌}
use Rattle.mcf_matrix.specs.PlaceSums.{at_place}
use Rattle.mcf_matrix_doubles.specs.Doubles.{double_cost}
use Rattle.mcf_matrix_doubles.proofs.prices.row_holds.Given as goal

abbrev pub invariant-loop-column : goal.invariant-loop-column
invariant-loop-column l =
    IsTrue l.holds ↔ ((j : ℕ) → j < l.column → IfSome (double_cost (get_or l.row j 0)) (λ c. pos 0 ≤ℤ (c -ℤ l.price *ℤ pos (2 ^ l.unit) -ℤ at_place l.prices j *ℤ pos (2 ^ l.unit))))
