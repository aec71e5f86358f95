use Rattle.std.proofs.Common.{◌≡◌, max, drop}
use Rattle.std.specs.List.{flat_map}
use Rattle.mcf_units.specs.Scales.{scale_of}
use Rattle.mcf_period_units.specs.PeriodScales.{time_amounts, time_costs}
use Rattle.mcf_period_units.proofs.scales.with_times.Given as goal

abbrev pub invariant-loop-place : goal.invariant-loop-place
invariant-loop-place l = record {
  amounts : max l.found.amounts (scale_of (flat_map time_amounts (drop l.place l.times))) ≡ max l.initial.found.amounts (scale_of (flat_map time_amounts l.times));
  costs : max l.found.costs (scale_of (flat_map time_costs (drop l.place l.times))) ≡ max l.initial.found.costs (scale_of (flat_map time_costs l.times));
}
