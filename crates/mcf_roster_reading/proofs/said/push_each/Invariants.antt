use Rattle.std.proofs.Common.{◌≡◌, ◌++◌, take}
use Rattle.std.specs.List.{flat_map}
use Rattle.mcf_roster_reading.specs.Said.{said_fault_by}
use Rattle.mcf_roster_reading.proofs.said.push_each.Given as goal

abbrev pub invariant-loop-one : goal.invariant-loop-one
invariant-loop-one l =
    l.faults.items ≡ l.initial.faults.items ++ flat_map (said_fault_by l.records l.kept l.names) (take l.one-index l.said)
