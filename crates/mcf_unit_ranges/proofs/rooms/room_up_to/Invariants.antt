use Rattle.std.proofs.Common.{◌≡◌, ◌*◌, ◌^◌, drop, pos, neg_ℤ, ◌+ℤ◌, ◌≤ℤ◌}
use Rattle.std.specs.Prelude.{option_map}
use Rattle.mcf_unit_ranges.specs.Spans.{room_up_to}
use Rattle.mcf_unit_ranges.proofs.rooms.room_up_to.Given as goal

abbrev pub invariant-loop-place : goal.invariant-loop-place
invariant-loop-place l = record {
  sum : option_map (λ x. l.total +ℤ x) (room_up_to l.drop (drop l.place l.own) l.last_cost l.last_most) ≡ room_up_to l.drop l.own l.last_cost l.last_most;
  low : neg_ℤ (pos (l.place * 2 ^ 63)) ≤ℤ l.total;
  high : l.total ≤ℤ pos (l.place * 2 ^ 63);
}
