use Rattle.std.proofs.Common.{◌≡◌, ◌+◌, ◌++◌, drop}
use Rattle.mcf_units.specs.GreatNumbers.{great_in_turn, great_step}
use Rattle.mcf_units.proofs.great.push_steps.Given as goal

abbrev pub invariant-loop-step : goal.invariant-loop-step
invariant-loop-step l =
    l.found.items ++ great_in_turn (great_step l.scales l.row) (l.step + 1) (drop l.step l.steps) ≡ l.initial.found.items ++ great_in_turn (great_step l.scales l.row) 1 l.steps
