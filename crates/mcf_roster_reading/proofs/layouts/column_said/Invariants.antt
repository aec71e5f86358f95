use Rattle.std.proofs.Common.{◌≡◌, map, take}
use Rattle.mcf_roster_reading.specs.Layouts.{said_at}
use Rattle.mcf_roster_reading.proofs.layouts.column_said.Given as goal

abbrev pub invariant-loop-row : goal.invariant-loop-row
invariant-loop-row l = l.made.items ≡ map (said_at l.name l.place) (take l.row-index l.rows)
