use Rattle.std.proofs.Common.{◌≡◌, ◌++◌, map, take}
use Rattle.mcf_places.specs.Models.{exit_supply}
use Rattle.mcf_places.proofs.supplies.push_exits.Given as goal

abbrev pub invariant-loop-place : goal.invariant-loop-place
invariant-loop-place l = l.supplies.items ≡ l.initial.supplies.items ++ map (λ p. exit_supply p.through p) (take l.place l.places)
