use Rattle.std.proofs.Common.{◌≡◌, max, drop}
use Rattle.std.specs.List.{flat_map}
use Rattle.mcf_units.specs.Scales.{route_amounts, route_costs, scale_of}
use Rattle.mcf_units.proofs.scales.with_routes.Given as goal

abbrev pub invariant-loop-place : goal.invariant-loop-place
invariant-loop-place l = record {
  amounts : max l.found.amounts (scale_of (flat_map route_amounts (drop l.place l.tables.routes))) ≡ max l.initial.found.amounts (scale_of (flat_map route_amounts l.tables.routes));
  costs : max l.found.costs (scale_of (flat_map route_costs (drop l.place l.tables.routes))) ≡ max l.initial.found.costs (scale_of (flat_map route_costs l.tables.routes));
}
