use Rattle.std.proofs.Common.{◌≡◌, ◌*◌, ◌^◌, take, pos, ◌≤ℤ◌}
use Rattle.mcf_model.specs.Reach.{leasts}
use Rattle.mcf_model.proofs.reach.leasts.Given as goal

abbrev pub invariant-loop-place : goal.invariant-loop-place
invariant-loop-place l = record {
  sum : l.total ≡ leasts (take l.place l.rows);
  low : pos 0 ≤ℤ leasts (take l.place l.rows);
  high : leasts (take l.place l.rows) ≤ℤ pos (l.place * 2 ^ 63);
}
