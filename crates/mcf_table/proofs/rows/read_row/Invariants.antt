use Rattle.std.proofs.Common.{◌≤◌, ◌-◌, length, take}
use Rattle.mcf_table.specs.Private.Found.{Begun}
use Rattle.mcf_table.proofs.rows.read_row.Given as goal

abbrev pub invariant-fields : goal.invariant-fields
invariant-fields l = record { inside : l.at ≤ length l.text; begun : Begun l.separator (take l.at l.text) l.fn.cells l.cells }

abbrev pub decreases-fields : goal.decreases-fields
decreases-fields l = length l.text - l.at
