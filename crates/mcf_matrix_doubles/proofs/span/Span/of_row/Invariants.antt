use Rattle.std.proofs.Common.{◌≡◌, ℕ, ◌+◌, ◌%◌, ◌^◌, ◌<◌, ◌↔◌, IfSome, IsTrue, get_or}
use Rattle.std.specs.Prelude.{unsigned_abs}
use Rattle.mcf_matrix_doubles.specs.Doubles.{double_cost}
use Rattle.mcf_matrix_doubles.proofs.span.Span.of_row.Given as goal

abbrev pub invariant-loop-bits : goal.invariant-loop-bits
invariant-loop-bits l =
    (IsTrue l.are_multiples ↔ ((j : ℕ) → j < l.bits-index → IfSome (double_cost (get_or l.row j 0)) (λ c. unsigned_abs c % 2 ^ l.unit ≡ 0)))
    × (IsTrue l.are_within ↔ ((j : ℕ) → j < l.bits-index → IfSome (double_cost (get_or l.row j 0)) (λ c. unsigned_abs c < 2 ^ (l.unit + 117))))
