use Rattle.std.proofs.Common.{◌≡◌, drop, pos, map, ◌+ℤ◌}
use Rattle.mcf_model.specs.Bottlenecks.{route_sum}
use Rattle.mcf_model.specs.Tables.{route_of}
use Rattle.mcf_places.specs.Throughput.{IsCut, cut, ways_span}
use Rattle.mcf_places.proofs.limits.routes_more.Given as goal

abbrev pub invariant-loop-route : goal.invariant-loop-route
invariant-loop-route l = record {
  within : IsCut l.sum;
  left : cut (pos l.sum +ℤ route_sum ways_span (map (route_of l.steps) (drop l.route l.rows)))
      ≡ cut (pos l.total +ℤ route_sum ways_span (map (route_of l.steps) l.rows));
}
