use Rattle.std.proofs.Common.{◌≡◌, ◌++◌, drop, map}
use Rattle.std.specs.Prelude.{filter}
use Rattle.mcf_places.specs.Ways.{row_back, row_returns}
use Rattle.mcf_places.proofs.ways.push_backs.Given as goal

abbrev pub invariant-loop-route : goal.invariant-loop-route
invariant-loop-route l =
    l.backs.items ++ map row_back (filter (row_returns l.places) (drop l.route l.rows))
    ≡ l.initial.backs.items ++ map row_back (filter (row_returns l.places) l.rows)
