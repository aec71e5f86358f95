use Rattle.std.proofs.Common.{◌≡◌, ◌++◌, map, take}
use Rattle.mcf_period_units.specs.declared.faults.PeriodGreat.TheVariants.{Number}
use Rattle.mcf_period_units.proofs.greats.push_numbers.Given as goal

abbrev pub invariant-loop-place : goal.invariant-loop-place
invariant-loop-place l = l.found.items ≡ l.initial.found.items ++ map Number (take l.place l.numbers)
