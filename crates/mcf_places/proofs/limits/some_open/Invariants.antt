use Rattle.std.proofs.Common.{◌≡◌, false, take}
use Rattle.std.specs.List.{list_any}
use Rattle.mcf_places.specs.PlannerFaults.{is_open}
use Rattle.mcf_places.proofs.limits.some_open.Given as goal

abbrev pub invariant-loop-place : goal.invariant-loop-place
invariant-loop-place l = list_any (λ p. is_open p.through) (take l.place l.places) ≡ false
