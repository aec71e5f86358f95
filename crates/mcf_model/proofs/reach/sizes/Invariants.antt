use Rattle.std.proofs.Common.{◌≡◌, ◌*◌, ◌^◌, take, pos, ◌≤ℤ◌}
use Rattle.mcf_model.specs.Reach.{sizes}
use Rattle.mcf_model.proofs.reach.sizes.Given as goal

abbrev pub invariant-loop-place : goal.invariant-loop-place
invariant-loop-place l = record {
  sum : l.total ≡ sizes (take l.place l.supplies);
  low : pos 0 ≤ℤ sizes (take l.place l.supplies);
  high : sizes (take l.place l.supplies) ≤ℤ pos (l.place * 2 ^ 63);
}
