use Rattle.std.proofs.Common.{◌≡◌, ◌+◌, ◌++◌, drop}
use Rattle.mcf_roster_reading.specs.Faults.{in_turn}
use Rattle.mcf_roster_reading.specs.Repeated.{twice_fault}
use Rattle.mcf_roster_reading.proofs.repeated.push_in_turn.Given as goal

abbrev pub invariant-loop-place : goal.invariant-loop-place
invariant-loop-place l =
    l.faults.items ++ in_turn (twice_fault l.records l.texts) (l.place + 1) (drop l.place l.pairs)
    ≡ l.initial.faults.items ++ in_turn (twice_fault l.records l.texts) 1 l.pairs
