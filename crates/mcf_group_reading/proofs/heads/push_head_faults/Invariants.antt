use Rattle.std.proofs.Common.{◌≡◌, ◌++◌, take}
use Rattle.std.specs.List.{flat_map}
use Rattle.mcf_group_reading.specs.GroupHeads.{head_fault}
use Rattle.mcf_group_reading.proofs.heads.push_head_faults.Given as goal

abbrev pub invariant-loop-head : goal.invariant-loop-head
invariant-loop-head l = l.faults.items ≡ l.initial.faults.items ++ flat_map (head_fault l.records) (take l.head-index l.heads)
