use Rattle.std.proofs.Common.{◌≡◌, take}
use Rattle.std.specs.List.{flat_map}
use Rattle.mcf_roster_reading.specs.Layouts.{row_needs}
use Rattle.mcf_roster_reading.proofs.matrix.needs_cells.Given as goal

abbrev pub invariant-loop-row : goal.invariant-loop-row
invariant-loop-row l = l.made.items ≡ flat_map (row_needs l.places) (take l.row-index l.rows)
