-- What was done to a table of persons and things before it was read, as rows of a table.
-- Source: own
use Rattle.std.specs.Prelude.{ℕ, List, ◌++◌, map}
use Rattle.mcf_answer_rows.specs.FormRows.{filled_row, left_out_rows, wish_rows}
use Rattle.mcf_pair_tables.specs.declared.prepared.Done.{Done}
use Rattle.mcf_pair_text.specs.PairFaultRows.{costs_word}
use Rattle.mcf_table.specs.Texts.{Record}

-- the row of totals that was left out, and the columns of these rows that were filled down
abbrev pub changed_rows : List Record → Done → List (List (List ℕ))
changed_rows rows done = left_out_rows costs_word done.total ++ map (filled_row costs_word rows) done.filled.items

-- the sheet of wishes that became these rows, the row of totals that was left out, and the columns
-- that were filled down
abbrev pub done_rows : List Record → Done → List (List (List ℕ))
done_rows rows done = wish_rows costs_word done.wishes done.needs.items ++ changed_rows rows done
