use Rattle.std.proofs.Common.{◌≡◌, max, drop}
use Rattle.std.specs.List.{flat_map}
use Rattle.mcf_units.specs.Scales.{place_amounts, place_costs, scale_of}
use Rattle.mcf_units.proofs.scales.with_places.Given as goal

abbrev pub invariant-loop-place : goal.invariant-loop-place
invariant-loop-place l = record {
  amounts : max l.found.amounts (scale_of (flat_map place_amounts (drop l.place l.places))) ≡ max l.initial.found.amounts (scale_of (flat_map place_amounts l.places));
  costs : max l.found.costs (scale_of (flat_map place_costs (drop l.place l.places))) ≡ max l.initial.found.costs (scale_of (flat_map place_costs l.places));
}
