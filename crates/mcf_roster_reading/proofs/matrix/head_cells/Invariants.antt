use Rattle.std.proofs.Common.{◌≡◌, map, take}
use Rattle.mcf_roster_reading.specs.Layouts.{head_at}
use Rattle.mcf_roster_reading.proofs.matrix.head_cells.Given as goal

abbrev pub invariant-loop-place : goal.invariant-loop-place
invariant-loop-place l = l.made.items ≡ map head_at (take l.place-index l.places)
