use Rattle.std.proofs.Common.{◌≡◌}
use Rattle.mcf_roster.specs.ToldTests.{tests_told}
use Rattle.mcf_roster.proofs.told.tests_told.Given as goal

abbrev pub invariant-loop-place : goal.invariant-loop-place
invariant-loop-place l = l.made.items ≡ tests_told l.turned l.table l.before l.place
