use Rattle.std.proofs.Common.{◌≡◌, map, take}
use Rattle.mcf_group_reading.specs.GroupRows.{name_in, sheet_in}
use Rattle.mcf_group_reading.proofs.rows.names_in.Given as goal

abbrev pub invariant-loop-row : goal.invariant-loop-row
invariant-loop-row l = map (λ name. name.now) l.found.items ≡ map (name_in (sheet_in l.page)) (take l.row-index l.rows)
