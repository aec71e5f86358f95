-- Written tables read back.
use Rattle.std.proofs.Common.{◌≡◌, ℕ, ◌+◌, true, List, [], ◌∷◌, ◌++◌, map, All, filter, refl, sym, ap, ◌∙◌, append_assoc, append-nil, inl, inr}
use Rattle.std.specs.List.{list_any}
use Rattle.std.proofs.lemmas.List.Elements.{All-head, All-tail}
use Rattle.mcf_text.specs.Lines.{line_feed}
use Rattle.mcf_table.specs.Blanks.{back_trimmed, front_trimmed, trimmed}
use Rattle.mcf_table.specs.Laws.{WrittenTablesReadBack}
use Rattle.mcf_table.specs.LineEnds.{line_feeds}
use Rattle.mcf_table.specs.Rows.{IsRow, ended, quoted}
use Rattle.mcf_table.specs.Texts.{AreRecords, Record, is_filled, is_kept}
use Rattle.mcf_table.specs.Written.{IsBare, IsWritable, records_from, row_text}

row_written : (separator : ℕ) (cell : List ℕ) (cells : List (List ℕ)) → All IsBare (cell ∷ cells)
    → IsRow separator (row_text separator (cell ∷ cells)) (cell ∷ cells)
row_written separator cell [] bare = record {
  front = [];
  last = quoted 0 cell;
  spelled = refl;
  said = (inr (0, cell, refl, sym (All-head IsBare cell [] bare)), tt);
}
row_written separator cell (other ∷ cells) bare =
    let more = row_written separator other cells (All-tail IsBare cell (other ∷ cells) bare) in
    record {
      front = quoted 0 cell ∷ more.front;
      last = more.last;
      spelled = ap (λ (xs : List ℕ). quoted 0 cell ++ separator ∷ xs) more.spelled
          ∙ sym (append_assoc (quoted 0 cell) (separator ∷ ended separator more.front) more.last);
      said = (inr (0, cell, refl, sym (All-head IsBare cell (other ∷ cells) bare)), more.said);
    }

writable_row : (separator : ℕ) (row : List (List ℕ)) → IsWritable row → IsRow separator (row_text separator row) row
writable_row separator [] is = absurd (cc (is.0))
writable_row separator (cell ∷ cells) is = row_written separator cell cells is.1

trimmed-nil : [] ≡ trimmed []
unfolding trimmed back_trimmed front_trimmed
trimmed-nil = refl

-- with the empty row after the last line end
abbrev all_from : ℕ → ℕ → List (List (List ℕ)) → List Record
all_from separator line [] = record { line = line; cells = [] ∷ [] } ∷ []
all_from separator line (row ∷ rows) =
    record { line = line; cells = row } ∷ all_from separator (line + line_feeds (row_text separator row) + 1) rows

rows_written : (separator line : ℕ) (rows : List (List (List ℕ))) → All IsWritable rows
    → AreRecords separator line (map (row_text separator) rows ++ [] ∷ []) (all_from separator line rows)
rows_written separator line [] are =
    (refl, record { front = []; last = []; spelled = refl; said = (inl (record { inside = refl; unquoted = refl }, trimmed-nil), tt) }, tt)
rows_written separator line (row ∷ rows) are = (
  refl,
  writable_row separator row (All-head IsWritable row rows are),
  rows_written separator (line + line_feeds (row_text separator row) + 1) rows (All-tail IsWritable row rows are),
)

rows_kept : (separator line : ℕ) (rows : List (List (List ℕ))) → All IsWritable rows
    → records_from separator line rows ≡ filter is_kept (all_from separator line rows)
rows_kept separator line [] are = refl
rows_kept separator line (row ∷ rows) are =
    let here : list_any is_filled row ≡ true = (All-head IsWritable row rows are).0 in
    rw here
    (ap (λ (rs : List Record). record { line = line; cells = row } ∷ rs)
    (rows_kept separator (line + line_feeds (row_text separator row) + 1) rows (All-tail IsWritable row rows are)))

pub written_back : WrittenTablesReadBack
written_back separator rows are = record {
  front = map (row_text separator) rows;
  last = [];
  all = all_from separator 1 rows;
  spelled = sym (append-nil (ended line_feed (map (row_text separator) rows)));
  rows = rows_written separator 1 rows are;
  kept = rows_kept separator 1 rows are;
}
