use Rattle.std.proofs.Common.{◌≡◌, false, take}
use Rattle.std.specs.List.{list_any}
use Rattle.mcf_places.specs.PlannerFaults.{place_earns}
use Rattle.mcf_places.proofs.faults.places_earn.Given as goal

abbrev pub invariant-loop-place : goal.invariant-loop-place
invariant-loop-place l = list_any (λ p. place_earns p.through) (take l.place l.places) ≡ false
