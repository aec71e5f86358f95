use Rattle.std.proofs.Common.{◌≡◌, map, take}
use Rattle.std.specs.Prelude.{Some}
use Rattle.mcf_places.specs.LimitedPlanners.{limited_place}
use Rattle.mcf_places.proofs.limits.limited_places.Given as goal

abbrev pub invariant-loop-place : goal.invariant-loop-place
invariant-loop-place l = l.made.items ≡ map (limited_place (Some l.limit)) (take l.place l.places)
