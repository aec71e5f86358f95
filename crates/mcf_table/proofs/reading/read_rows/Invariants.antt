use Rattle.std.proofs.Common.{◌-◌, length}
use Rattle.mcf_table.specs.Private.Found.{IsReadTo}
use Rattle.mcf_table.proofs.reading.read_rows.Given as goal

abbrev pub invariant-rows : goal.invariant-rows
invariant-rows l = IsReadTo l.separator l.text l.cells l.parts.items l.at l.line

abbrev pub decreases-rows : goal.decreases-rows
decreases-rows l = length l.text - l.at
