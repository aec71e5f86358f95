use Rattle.std.proofs.Common.{◌≡◌, ◌++◌, drop, map}
use Rattle.mcf_answer_rows.specs.Lines.{rows_text}
use Rattle.mcf_pair_text.specs.PairFaultRows.{great_row}
use Rattle.mcf_pair_text.specs.PairPlaces.{sheet_in}
use Rattle.mcf_pair_text.proofs.fault_rows.put_greats.Given as goal

abbrev pub invariant-loop-place : goal.invariant-loop-place
invariant-loop-place l =
    l.out.items ++ rows_text (map (great_row (sheet_in l.page)) (drop l.place l.cells))
    ≡ l.initial.out.items ++ rows_text (map (great_row (sheet_in l.page)) l.cells)
