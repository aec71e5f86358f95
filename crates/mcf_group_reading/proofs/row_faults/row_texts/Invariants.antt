use Rattle.std.proofs.Common.{◌≡◌, map, take}
use Rattle.mcf_group_reading.specs.GroupRows.{sheet_in}
use Rattle.mcf_group_reading.specs.RowFaults.{row_text}
use Rattle.mcf_group_reading.proofs.row_faults.row_texts.Given as goal

abbrev pub invariant-loop-row : goal.invariant-loop-row
invariant-loop-row l = map (λ text. text.items) l.made.items ≡ map (row_text (sheet_in l.page)) (take l.row-index l.rows)
