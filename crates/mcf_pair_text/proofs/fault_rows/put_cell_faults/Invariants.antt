use Rattle.std.proofs.Common.{◌≡◌, ◌++◌, drop, map}
use Rattle.mcf_answer_rows.specs.Lines.{rows_text}
use Rattle.mcf_pair_text.specs.PairFaultRows.{cell_fault_row}
use Rattle.mcf_pair_text.specs.PairPlaces.{sheet_in}
use Rattle.mcf_pair_text.proofs.fault_rows.put_cell_faults.Given as goal

abbrev pub invariant-loop-place : goal.invariant-loop-place
invariant-loop-place l =
    l.out.items ++ rows_text (map (cell_fault_row (sheet_in l.page)) (drop l.place l.faults))
    ≡ l.initial.out.items ++ rows_text (map (cell_fault_row (sheet_in l.page)) l.faults)
