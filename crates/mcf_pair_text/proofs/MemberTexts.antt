-- The text of one of those that compete.
use Rattle.std.proofs.Common.{◌≡◌, ℕ, Bool, true, false, List, ◌++◌, ◌∙◌, sym, ap, append-nil}
use Rattle.std.specs.Prelude.{slice_index_or}
use Rattle.mcf_answer_rows.specs.Lines.{row_line, rows_text}
use Rattle.mcf_names.specs.Names.{name_at}
use Rattle.mcf_pair_text.specs.MemberRows.{member_row, member_rows}
use Rattle.mcf_table.specs.Texts.{Record}

-- of one that doesn't compete nothing is put
pub passed_over : (out word : List ℕ) (records : List Record) (under names : List (List ℕ)) (tests : List Bool) (amounts : List ℕ) (place : ℕ)
    → slice_index_or tests place false ≡ false → out ≡ out ++ rows_text (member_rows word records under names tests amounts place)
passed_over out word records under names tests amounts place left = rw left (sym (append-nil out))

-- the row of one that competes is put
pub told_once : (out new word : List ℕ) (records : List Record) (under names : List (List ℕ)) (tests : List Bool) (amounts : List ℕ) (place : ℕ)
    → slice_index_or tests place false ≡ true → new ≡ out ++ row_line (member_row word records under (name_at names place) (slice_index_or amounts place 0))
    → new ≡ out ++ rows_text (member_rows word records under names tests amounts place)
told_once out new word records under names tests amounts place taken put =
    rw taken (put ∙ ap (λ (xs : List ℕ). out ++ xs) (sym (append-nil (row_line (member_row word records under (name_at names place) (slice_index_or amounts place 0))))))
