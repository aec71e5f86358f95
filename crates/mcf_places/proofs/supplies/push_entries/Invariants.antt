use Rattle.std.proofs.Common.{◌≡◌, ◌++◌, map, take}
use Rattle.mcf_places.specs.Models.{entry_supply}
use Rattle.mcf_places.proofs.supplies.push_entries.Given as goal

abbrev pub invariant-loop-place : goal.invariant-loop-place
invariant-loop-place l = l.supplies.items ≡ l.initial.supplies.items ++ map (λ p. entry_supply p.through p) (take l.place l.places)
