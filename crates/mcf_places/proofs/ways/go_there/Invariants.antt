use Rattle.std.proofs.Common.{◌≡◌, drop, length, map, take}
use Rattle.mcf_places.specs.Ways.{row_there}
use Rattle.mcf_places.proofs.ways.go_there.Given as goal

abbrev pub invariant-loop-route : goal.invariant-loop-route
invariant-loop-route l = record {
  same : length l.rows ≡ length l.initial.rows;
  done : take l.route l.rows ≡ map (row_there l.places) (take l.route l.initial.rows);
  rest : drop l.route l.rows ≡ drop l.route l.initial.rows;
}
