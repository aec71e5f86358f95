use Rattle.std.proofs.Common.{◌≡◌, ◌*◌, ◌^◌, take, pos, neg_ℤ, ◌≤ℤ◌}
use Rattle.mcf_model.specs.Model.{room}
use Rattle.mcf_model.proofs.rooms.rooms.Given as goal

abbrev pub invariant-loop-place : goal.invariant-loop-place
invariant-loop-place l = record {
  sum : l.total ≡ room (take l.place l.own) (pos 0);
  low : neg_ℤ (pos (l.place * 2 ^ 63)) ≤ℤ room (take l.place l.own) (pos 0);
  high : room (take l.place l.own) (pos 0) ≤ℤ pos (l.place * 2 ^ 63);
}
