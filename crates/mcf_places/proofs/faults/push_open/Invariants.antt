use Rattle.std.proofs.Common.{◌≡◌, ◌+◌, ◌++◌, drop, map}
use Rattle.mcf_places.specs.declared.faults.PlannerFault.TheVariants.{NoLimit}
use Rattle.mcf_places.specs.PlannerFaults.{is_open}
use Rattle.mcf_places.specs.Ways.{numbers_of}
use Rattle.mcf_places.proofs.faults.push_open.Given as goal

abbrev pub invariant-loop-place : goal.invariant-loop-place
invariant-loop-place l =
    l.found.items ++ map NoLimit (numbers_of (λ p. is_open p.through) (l.place + 1) (drop l.place l.places))
    ≡ l.initial.found.items ++ map NoLimit (numbers_of (λ p. is_open p.through) 1 l.places)
