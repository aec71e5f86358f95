use Rattle.std.proofs.Common.{◌≡◌, take}
use Rattle.std.specs.Prelude.{filter}
use Rattle.mcf_roster_reading.specs.Layouts.{is_needs_row}
use Rattle.mcf_roster_reading.proofs.matrix.needs_rows.Given as goal

abbrev pub invariant-loop-row : goal.invariant-loop-row
invariant-loop-row l = l.made.items ≡ filter (is_needs_row l.records) (take l.row-index l.rows)
