use Rattle.std.proofs.Common.{◌≡◌, ◌≤◌, ◌+◌, drop, length}
use Rattle.mcf_places.specs.Kinds.{kind_route}
use Rattle.mcf_places.specs.Models.{routes_by}
use Rattle.mcf_places.proofs.reading.count_of.Given as goal

abbrev pub invariant-loop-place : goal.invariant-loop-place
invariant-loop-place l = record {
  count : l.count + length (routes_by (kind_route l.kind l.places l.policy) (l.place + 1) (drop l.place l.places))
      ≡ length (routes_by (kind_route l.kind l.places l.policy) 1 l.places);
  few : l.count ≤ l.place;
}
