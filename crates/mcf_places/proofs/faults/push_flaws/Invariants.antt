use Rattle.std.proofs.Common.{◌≡◌, ◌+◌, ◌++◌, drop, map}
use Rattle.mcf_places.specs.PlannerFaults.{flaw_fault, has_flaw}
use Rattle.mcf_places.specs.Ways.{numbers_of}
use Rattle.mcf_places.proofs.faults.push_flaws.Given as goal

abbrev pub invariant-loop-place : goal.invariant-loop-place
invariant-loop-place l =
    l.found.items ++ map (flaw_fault l.flaw) (numbers_of (has_flaw l.flaw l.policy) (l.place + 1) (drop l.place l.places))
    ≡ l.initial.found.items ++ map (flaw_fault l.flaw) (numbers_of (has_flaw l.flaw l.policy) 1 l.places)
