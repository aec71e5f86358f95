use Rattle.std.proofs.Common.{◌≡◌, ◌*◌, ◌^◌, drop, pos, neg_ℤ, ◌+ℤ◌, ◌≤ℤ◌}
use Rattle.mcf_unit_ranges.specs.Spans.{room_below}
use Rattle.mcf_unit_ranges.proofs.rooms.room_below.Given as goal

abbrev pub invariant-loop-place : goal.invariant-loop-place
invariant-loop-place l = record {
  sum : l.total +ℤ room_below l.drop (drop l.place l.own) l.last_cost l.last_most ≡ room_below l.drop l.own l.last_cost l.last_most;
  low : neg_ℤ (pos (l.place * 2 ^ 63)) ≤ℤ l.total;
  high : l.total ≤ℤ pos (l.place * 2 ^ 63);
}
