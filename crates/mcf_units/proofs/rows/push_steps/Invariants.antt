use Rattle.std.proofs.Common.{◌≡◌, ◌++◌, map, take}
use Rattle.mcf_units.specs.Wholes.{step_in}
use Rattle.mcf_units.proofs.rows.push_steps.Given as goal

abbrev pub invariant-loop-step : goal.invariant-loop-step
invariant-loop-step l = l.made.items ≡ l.initial.made.items ++ map (step_in l.scales) (take l.step l.steps)
