use Rattle.std.proofs.Common.{◌≡◌, take}
use Rattle.std.specs.Prelude.{filter, not}
use Rattle.mcf_roster_reading.specs.Layouts.{is_needs_row}
use Rattle.mcf_roster_reading.proofs.matrix.person_rows.Given as goal

abbrev pub invariant-loop-row : goal.invariant-loop-row
invariant-loop-row l = l.made.items ≡ filter (λ row. not (is_needs_row l.records row)) (take l.row-index l.rows)
