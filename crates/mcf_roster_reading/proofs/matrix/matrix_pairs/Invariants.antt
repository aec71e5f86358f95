use Rattle.std.proofs.Common.{◌≡◌, take}
use Rattle.std.specs.List.{flat_map}
use Rattle.mcf_roster_reading.specs.Layouts.{row_pairs}
use Rattle.mcf_roster_reading.proofs.matrix.matrix_pairs.Given as goal

abbrev pub invariant-loop-row : goal.invariant-loop-row
invariant-loop-row l = l.made.items ≡ flat_map (row_pairs l.places) (take l.row-index l.rows)
