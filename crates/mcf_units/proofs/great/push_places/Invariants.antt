use Rattle.std.proofs.Common.{◌≡◌, ◌+◌, ◌++◌, drop}
use Rattle.mcf_units.specs.GreatNumbers.{great_in_turn, great_place}
use Rattle.mcf_units.proofs.great.push_places.Given as goal

abbrev pub invariant-loop-place : goal.invariant-loop-place
invariant-loop-place l =
    l.found.items ++ great_in_turn (great_place l.scales) (l.place + 1) (drop l.place l.places) ≡ l.initial.found.items ++ great_in_turn (great_place l.scales) 1 l.places
