use Rattle.std.proofs.Common.{◌≡◌, ◌++◌, take}
use Rattle.std.specs.List.{flat_map}
use Rattle.mcf_group_reading.specs.GroupRows.{sheet_in}
use Rattle.mcf_group_reading.specs.RowFaults.{listed_in, row_faults}
use Rattle.mcf_group_reading.proofs.row_faults.push_each.Given as goal

abbrev pub invariant-loop-row : goal.invariant-loop-row
invariant-loop-row l = l.faults.items ≡ l.initial.faults.items ++ flat_map (row_faults (listed_in l.lists) (sheet_in l.page)) (take l.row-index l.rows)
