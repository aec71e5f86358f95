-- The text of an answer to two texts.
use Rattle.std.proofs.Common.{◌≡◌, ℕ, List, [], ◌++◌, ap, sym, ◌∙◌, append_assoc, append-nil, OnOk, Result, Ok, Err}
use Rattle.std.specs.Prelude.{IfOk}
use Rattle.mcf_answer_rows.proofs.RowTexts.{rows_are_table, two_put}
use Rattle.mcf_answer_rows.specs.Lines.{rows_text}
use Rattle.mcf_answer_rows.specs.declared.texts.PlanText.{PlanText}
use Rattle.mcf_flow_tables.specs.TableAnswers.{FlowBytes, IsFlowAnswer}
use Rattle.mcf_flow_tables.specs.declared.flow_answer.FlowAnswer.{FlowAnswer}
use Rattle.mcf_flow_tables.specs.declared.options.Options.{Options}
use Rattle.mcf_plan_text.specs.PlanTexts.{IsPlanText, answer_kind, answer_rows}

-- the text of an answer to two texts
pub is_plan_text : {E : Type 0} (r : Result PlanText E) (texts : FlowBytes) (options : Options) (answer : FlowAnswer)
    → IsFlowAnswer texts options answer → IfOk r (λ told. told.text.items ≡ rows_text (answer_rows answer))
    → IfOk r (λ told. told.kind ≡ answer_kind answer) → IfOk r (IsPlanText texts options)
is_plan_text (Err fault) texts options answer answers text kind = tt
is_plan_text (Ok told) texts options answer answers text kind =
    record { answer = answer; answers = answers; text_is = text ∙ rows_are_table (answer_rows answer); kind_is = kind }
