use Rattle.std.proofs.Common.{◌≡◌, drop, pos, ◌+ℤ◌}
use Rattle.mcf_places.specs.Planners.{place_sum}
use Rattle.mcf_places.specs.Throughput.{IsCut, cut, place_span}
use Rattle.mcf_places.proofs.limits.places_more.Given as goal

abbrev pub invariant-loop-place : goal.invariant-loop-place
invariant-loop-place l = record {
  within : IsCut l.sum;
  left : cut (pos l.sum +ℤ place_sum (λ v p. place_span p) 1 (drop l.place l.places)) ≡ cut (pos l.total +ℤ place_sum (λ v p. place_span p) 1 l.places);
}
