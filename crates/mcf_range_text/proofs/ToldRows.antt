-- The text of the row of a range that is told.
use Rattle.std.proofs.Common.{◌≡◌, ℕ, List, ap, sym, ◌∙◌, append-nil}
use Rattle.std.specs.Prelude.{Option, Some}
use Rattle.mcf_answer_rows.specs.Lines.{row_line, rows_text}
use Rattle.mcf_range_text.specs.PeriodRangeTexts.{row_if_told}

pub told_text : {R : Type 0} (row : R → List (List ℕ)) (told : Option R) (range : R) → told ≡ Some range → row_line (row range) ≡ rows_text (row_if_told row told)
told_text row told range is = sym (append-nil (row_line (row range))) ∙ ap (λ t. rows_text (row_if_told row t)) (sym is)
