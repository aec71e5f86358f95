use Rattle.std.proofs.Common.{◌≡◌, ◌+◌, drop}
use Rattle.mcf_roster.specs.RosterFaults.{first_number, is_astray}
use Rattle.mcf_roster.proofs.faults.first_astray.Given as goal

abbrev pub invariant-loop-place : goal.invariant-loop-place
invariant-loop-place l =
    first_number (is_astray l.persons l.things) (l.place + 1) (drop l.place l.pairs) ≡ first_number (is_astray l.persons l.things) 1 l.pairs
