use Rattle.std.proofs.Common.{◌≡◌, ◌++◌, take, map}
use Rattle.mcf_places.specs.declared.faults.PlannerFault.TheVariants.{Routes}
use Rattle.mcf_places.proofs.faults.push_routes.Given as goal

abbrev pub invariant-loop-place : goal.invariant-loop-place
invariant-loop-place l = l.found.items ≡ l.initial.found.items ++ map Routes (take l.place l.faults)
