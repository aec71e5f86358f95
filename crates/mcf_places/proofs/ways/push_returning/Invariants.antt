use Rattle.std.proofs.Common.{◌≡◌, ◌+◌, ◌++◌, drop}
use Rattle.mcf_places.specs.Ways.{numbers_of, row_returns}
use Rattle.mcf_places.proofs.ways.push_returning.Given as goal

abbrev pub invariant-loop-route : goal.invariant-loop-route
invariant-loop-route l =
    l.returning.items ++ numbers_of (row_returns l.places) (l.route + 1) (drop l.route l.rows)
    ≡ l.initial.returning.items ++ numbers_of (row_returns l.places) 1 l.rows
