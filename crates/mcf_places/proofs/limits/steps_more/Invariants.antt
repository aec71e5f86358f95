use Rattle.std.proofs.Common.{◌≡◌, drop, pos, ◌+ℤ◌}
use Rattle.mcf_places.specs.Throughput.{IsCut, cut, steps_span}
use Rattle.mcf_places.proofs.limits.steps_more.Given as goal

abbrev pub invariant-loop-place : goal.invariant-loop-place
invariant-loop-place l = record {
  within : IsCut l.sum;
  left : cut (pos l.sum +ℤ steps_span (drop l.place l.steps)) ≡ cut (pos l.total +ℤ steps_span l.steps);
}
