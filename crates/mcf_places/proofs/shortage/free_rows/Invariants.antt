use Rattle.std.proofs.Common.{◌≡◌, map, take}
use Rattle.mcf_places.specs.Shortage.{free_row}
use Rattle.mcf_places.proofs.shortage.free_rows.Given as goal

abbrev pub invariant-loop-place : goal.invariant-loop-place
invariant-loop-place l = l.made.items ≡ map free_row (take l.place l.rows)
