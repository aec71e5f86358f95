use Rattle.std.proofs.Common.{◌≡◌, ◌+◌, ◌≤◌, drop}
use Rattle.mcf_units.specs.declared.great.TheConstants.{STEP_LIMIT}
use Rattle.mcf_units.specs.GreatNumbers.{step_total}
use Rattle.mcf_units.proofs.great.has_many_steps.Given as goal

abbrev pub invariant-loop-place : goal.invariant-loop-place
invariant-loop-place l = record {
  same : (l.total + step_total (drop l.place l.tables.routes)) ≡ step_total l.tables.routes;
  few : l.total ≤ STEP_LIMIT;
}
