use Rattle.std.proofs.Common.{◌≡◌, map, take}
use Rattle.mcf_group_reading.specs.GroupRows.{member_entry, rosters_in, sheet_in}
use Rattle.mcf_group_reading.proofs.rows.member_entries.Given as goal

abbrev pub invariant-loop-row : goal.invariant-loop-row
invariant-loop-row l = l.made.items ≡ map (member_entry (rosters_in l.known) (sheet_in l.page) l.groups) (take l.row-index l.rows)
