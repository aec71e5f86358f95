use Rattle.std.proofs.Common.{◌≡◌, ◌++◌, ◌+◌, drop}
use Rattle.mcf_places.specs.Kinds.{kind_route}
use Rattle.mcf_places.specs.Models.{by_place}
use Rattle.mcf_places.proofs.reading.by_place.Given as goal

abbrev pub invariant-loop-place : goal.invariant-loop-place
invariant-loop-place l =
    l.made.items ++ by_place (kind_route l.kind l.places l.policy) (l.place + 1) (drop l.place l.places) l.rest
    ≡ by_place (kind_route l.kind l.places l.policy) 1 l.places l.amounts
