use Rattle.std.proofs.Common.{◌≡◌, ℕ, ◌+◌, ◌%◌, ◌^◌, ◌<◌, ◌↔◌, IfSome, IsTrue}
use Rattle.std.specs.Prelude.{unsigned_abs}
use Rattle.mcf_matrix_doubles.specs.DoubleTables.{bits_at}
use Rattle.mcf_matrix_doubles.specs.Doubles.{double_cost}
use Rattle.mcf_matrix_doubles.proofs.span.is_wide.Given as goal

abbrev pub invariant-loop-row : goal.invariant-loop-row
invariant-loop-row l =
    (IsTrue l.are_multiples ↔ ((i : ℕ) → i < l.row → (j : ℕ) → j < l.matrix.columns → IfSome (double_cost (bits_at l.matrix i j)) (λ c. unsigned_abs c % 2 ^ l.unit ≡ 0)))
    × (IsTrue l.are_within ↔ ((i : ℕ) → i < l.row → (j : ℕ) → j < l.matrix.columns → IfSome (double_cost (bits_at l.matrix i j)) (λ c. unsigned_abs c < 2 ^ (l.unit + 117))))
