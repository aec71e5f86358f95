use Rattle.std.proofs.Common.{◌≡◌, ◌++◌, length, ◌-◌}
use Rattle.std.specs.List.{flat_map, range_with_len}
use Rattle.mcf_answer_rows.specs.Lines.{rows_text}
use Rattle.mcf_pair_text.specs.PairPlaces.{sheet_in}
use Rattle.mcf_pair_text.specs.PairRows.{chosen_rows}
use Rattle.mcf_pair_text.proofs.rows.put_all_chosen.Given as goal

abbrev pub invariant-loop-place : goal.invariant-loop-place
invariant-loop-place l =
    l.out.items ++ rows_text (flat_map (chosen_rows (sheet_in l.page) l.table l.chosen) (range_with_len l.place (length l.chosen - l.place)))
    ≡ l.initial.out.items ++ rows_text (flat_map (chosen_rows (sheet_in l.page) l.table l.chosen) (range_with_len 0 (length l.chosen)))
