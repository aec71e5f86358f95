use Rattle.std.proofs.Common.{◌≡◌, ◌++◌, map, take}
use Rattle.mcf_roster_reading.specs.Layouts.{need_at}
use Rattle.mcf_roster_reading.proofs.matrix.push_row_needs.Given as goal

abbrev pub invariant-loop-place : goal.invariant-loop-place
invariant-loop-place l = l.made.items ≡ l.initial.made.items ++ map (need_at l.row) (take l.place-index l.places)
