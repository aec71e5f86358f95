use Rattle.std.proofs.Common.{◌≡◌, max, drop}
use Rattle.mcf_units.specs.Scales.{step_amounts, step_costs, scale_of}
use Rattle.mcf_units.proofs.scales.with_steps.Given as goal

abbrev pub invariant-loop-step : goal.invariant-loop-step
invariant-loop-step l = record {
  amounts : max l.found.amounts (scale_of (step_amounts (drop l.step l.steps))) ≡ max l.initial.found.amounts (scale_of (step_amounts l.steps));
  costs : max l.found.costs (scale_of (step_costs (drop l.step l.steps))) ≡ max l.initial.found.costs (scale_of (step_costs l.steps));
}
