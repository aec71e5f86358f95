-- The text of an answer to two texts.
use Rattle.std.proofs.Common.{◌≡◌, ◌∙◌, Result, Ok, Err}
use Rattle.std.specs.Prelude.{IfOk}
use Rattle.mcf_answer_rows.proofs.RowTexts.{rows_are_table}
use Rattle.mcf_answer_rows.specs.Lines.{rows_text}
use Rattle.mcf_answer_rows.specs.declared.texts.PlanText.{PlanText}
use Rattle.mcf_pair_tables.specs.GroupAnswers.{GroupBytes, IsGroupsText}
use Rattle.mcf_pair_tables.specs.declared.group_answer.GroupsAnswer.{GroupsAnswer}
use Rattle.mcf_pair_tables.specs.declared.grouped.Asked.{Asked}
use Rattle.mcf_pair_text.specs.GroupTexts.{IsGroupText, answer_kind, answer_rows}

-- the text of an answer to two texts
pub is_group_text : {E : Type 0} (r : Result PlanText E) (texts : GroupBytes) (asked : Asked) (answer : GroupsAnswer)
    → IsGroupsText texts asked answer → IfOk r (λ told. told.text.items ≡ rows_text (answer_rows asked.options answer))
    → IfOk r (λ told. told.kind ≡ answer_kind answer) → IfOk r (IsGroupText texts asked)
is_group_text (Err fault) texts asked answer answers rows kind = tt
is_group_text (Ok told) texts asked answer answers rows kind =
    record { answer = answer; answers = answers; text_is = rows ∙ rows_are_table (answer_rows asked.options answer); kind_is = kind }
