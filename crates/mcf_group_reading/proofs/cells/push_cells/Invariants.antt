use Rattle.std.proofs.Common.{◌≡◌, ◌++◌, map, take}
use Rattle.mcf_group_reading.specs.Faults.{beyond_fault}
use Rattle.mcf_group_reading.proofs.cells.push_cells.Given as goal

abbrev pub invariant-loop-cell : goal.invariant-loop-cell
invariant-loop-cell l = l.faults.items ≡ l.initial.faults.items ++ map beyond_fault (take l.cell-index l.cells)
