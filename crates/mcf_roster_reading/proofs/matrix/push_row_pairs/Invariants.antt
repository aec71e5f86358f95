use Rattle.std.proofs.Common.{◌≡◌, ◌++◌, map, take}
use Rattle.mcf_roster_reading.specs.Layouts.{matrix_pair}
use Rattle.mcf_roster_reading.proofs.matrix.push_row_pairs.Given as goal

abbrev pub invariant-loop-place : goal.invariant-loop-place
invariant-loop-place l = l.made.items ≡ l.initial.made.items ++ map (matrix_pair l.row) (take l.place-index l.places)
