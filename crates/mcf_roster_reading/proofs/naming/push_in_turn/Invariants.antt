use Rattle.std.proofs.Common.{◌≡◌, ◌+◌, ◌++◌, drop}
use Rattle.mcf_roster_reading.specs.Faults.{in_turn}
use Rattle.mcf_roster_reading.specs.Naming.{name_faults}
use Rattle.mcf_roster_reading.proofs.naming.push_in_turn.Given as goal

abbrev pub invariant-loop-place : goal.invariant-loop-place
invariant-loop-place l =
    l.faults.items ++ in_turn (name_faults l.once l.records l.names) (l.place + 1) (drop l.place l.places)
    ≡ l.initial.faults.items ++ in_turn (name_faults l.once l.records l.names) 1 l.places
