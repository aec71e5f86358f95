use Rattle.std.proofs.Common.{◌≡◌, ◌+◌, drop}
use Rattle.mcf_roster.specs.RosterFaults.{first_number, is_empty}
use Rattle.mcf_roster.proofs.faults.first_empty.Given as goal

abbrev pub invariant-loop-place : goal.invariant-loop-place
invariant-loop-place l = first_number is_empty (l.place + 1) (drop l.place l.ranges) ≡ first_number is_empty 1 l.ranges
