use Rattle.std.proofs.Common.{◌≡◌, ◌++◌, take}
use Rattle.std.specs.List.{flat_map}
use Rattle.mcf_period_reading.specs.HeadFaults.{head_fault}
use Rattle.mcf_period_reading.proofs.head_faults.push_head_faults.Given as goal

abbrev pub invariant-loop-head : goal.invariant-loop-head
invariant-loop-head l =
    l.faults.items ≡ l.initial.faults.items ++ flat_map (head_fault l.has l.table l.records) (take l.head-index l.heads)
