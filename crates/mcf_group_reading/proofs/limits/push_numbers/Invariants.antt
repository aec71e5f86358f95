use Rattle.std.proofs.Common.{◌≡◌, ◌++◌, take}
use Rattle.std.specs.List.{flat_map}
use Rattle.mcf_group_reading.specs.GroupRows.{sheet_in}
use Rattle.mcf_group_reading.specs.Limits.{number_fault}
use Rattle.mcf_group_reading.proofs.limits.push_numbers.Given as goal

abbrev pub invariant-loop-row : goal.invariant-loop-row
invariant-loop-row l = l.faults.items ≡ l.initial.faults.items ++ flat_map (number_fault (sheet_in l.page) l.said) (take l.row-index l.rows)
