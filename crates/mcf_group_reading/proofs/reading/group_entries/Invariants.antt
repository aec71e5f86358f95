use Rattle.std.proofs.Common.{◌≡◌, map, take}
use Rattle.mcf_group_reading.specs.GroupRows.{sheet_in}
use Rattle.mcf_group_reading.specs.GroupReading.{group_entry}
use Rattle.mcf_group_reading.specs.Bounds.{bounds_in}
use Rattle.mcf_group_reading.proofs.reading.group_entries.Given as goal

abbrev pub invariant-loop-place : goal.invariant-loop-place
invariant-loop-place l = l.made.items ≡ map (group_entry (sheet_in l.page) l.names (bounds_in l.limits)) (take l.place l.groups)
