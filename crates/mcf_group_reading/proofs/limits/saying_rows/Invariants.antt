use Rattle.std.proofs.Common.{◌≡◌, take}
use Rattle.std.specs.Prelude.{filter}
use Rattle.mcf_group_reading.specs.GroupRows.{sheet_in}
use Rattle.mcf_group_reading.specs.Limits.{says_number}
use Rattle.mcf_group_reading.proofs.limits.saying_rows.Given as goal

abbrev pub invariant-loop-row : goal.invariant-loop-row
invariant-loop-row l = l.made.items ≡ filter (says_number (sheet_in l.page) l.column) (take l.row-index l.rows)
