use Rattle.std.proofs.Common.{◌≡◌, ◌+◌, ◌++◌, drop}
use Rattle.mcf_units.specs.GreatNumbers.{great_in_turn, great_route}
use Rattle.mcf_units.proofs.great.push_routes.Given as goal

abbrev pub invariant-loop-place : goal.invariant-loop-place
invariant-loop-place l =
    l.found.items ++ great_in_turn (great_route l.scales) (l.place + 1) (drop l.place l.tables.routes) ≡ l.initial.found.items ++ great_in_turn (great_route l.scales) 1 l.tables.routes
