use Rattle.std.proofs.Common.{◌≡◌, ◌+◌, ◌≤◌, ◌++◌, length, drop}
use Rattle.mcf_units.specs.declared.great.TheConstants.{STEP_LIMIT}
use Rattle.mcf_units.specs.GreatNumbers.{step_total}
use Rattle.mcf_units.specs.Wholes.{rows_in, steps_in}
use Rattle.mcf_units.proofs.rows.routes_in.Given as goal

abbrev pub invariant-loop-place : goal.invariant-loop-place
invariant-loop-place l = record {
  steps : l.steps.items ++ steps_in l.scales (drop l.place l.tables.routes) ≡ steps_in l.scales l.tables.routes;
  rows : l.rows.items ++ rows_in l.scales (length l.steps.items) (drop l.place l.tables.routes) ≡ rows_in l.scales 0 l.tables.routes;
  few : (length l.steps.items + step_total (drop l.place l.tables.routes)) ≤ STEP_LIMIT;
}
