use Rattle.std.proofs.Common.{◌≡◌, ◌++◌, take}
use Rattle.std.specs.List.{flat_map}
use Rattle.mcf_group_reading.specs.GroupRows.{sheet_in}
use Rattle.mcf_group_reading.specs.Bounds.{bounds_in, empty_fault}
use Rattle.mcf_group_reading.proofs.limits.push_empty.Given as goal

abbrev pub invariant-loop-row : goal.invariant-loop-row
invariant-loop-row l = l.faults.items ≡ l.initial.faults.items ++ flat_map (empty_fault (sheet_in l.page) l.names (bounds_in l.limits)) (take l.row-index l.rows)
