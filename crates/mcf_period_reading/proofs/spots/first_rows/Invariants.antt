use Rattle.std.proofs.Common.{◌≡◌, ℕ}
use Rattle.std.specs.Prelude.{find}
use Rattle.std.specs.HashMap.{get}
use Rattle.std.specs.List.{range_with_len}
use Rattle.mcf_period_reading.specs.Spots.{is_at, same_key, spot_at}
use Rattle.mcf_period_reading.proofs.spots.first_rows.Given as goal

abbrev pub invariant-loop-place : goal.invariant-loop-place
invariant-loop-place l =
    (q : ℕ × ℕ) → get same_key l.rows q ≡ find (λ row. is_at q.0 q.1 (spot_at l.spots row)) (range_with_len 1 l.place)
