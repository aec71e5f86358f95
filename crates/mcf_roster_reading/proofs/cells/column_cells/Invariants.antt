use Rattle.std.proofs.Common.{◌≡◌, map, take}
use Rattle.mcf_roster_reading.specs.Cells.{at_place}
use Rattle.mcf_roster_reading.proofs.cells.column_cells.Given as goal

abbrev pub invariant-loop-row : goal.invariant-loop-row
invariant-loop-row l = l.made.items ≡ map (at_place l.place) (take l.row-index l.rows)
