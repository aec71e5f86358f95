-- The text of an answer to a text.
use Rattle.std.proofs.Common.{◌≡◌, ◌∙◌, Result, Ok, Err}
use Rattle.std.specs.Prelude.{IfOk}
use Rattle.mcf_answer_rows.proofs.RowTexts.{rows_are_table}
use Rattle.mcf_answer_rows.specs.Lines.{rows_text}
use Rattle.mcf_answer_rows.specs.declared.texts.PlanText.{PlanText}
use Rattle.mcf_pair_tables.specs.PairAnswers.{CostBytes, IsPairAnswer}
use Rattle.mcf_pair_tables.specs.declared.options.Options.{Options}
use Rattle.mcf_pair_tables.specs.declared.pair_answer.PairAnswer.{PairAnswer}
use Rattle.mcf_pair_text.specs.PairTexts.{IsPairText, answer_kind, answer_rows}

-- the text of an answer to a text
pub is_pair_text : {E : Type 0} (r : Result PlanText E) (texts : CostBytes) (options : Options) (answer : PairAnswer)
    → IsPairAnswer texts options answer → IfOk r (λ told. told.text.items ≡ rows_text (answer_rows options answer))
    → IfOk r (λ told. told.kind ≡ answer_kind answer) → IfOk r (IsPairText texts options)
is_pair_text (Err fault) texts options answer answers rows kind = tt
is_pair_text (Ok told) texts options answer answers rows kind =
    record { answer = answer; answers = answers; text_is = rows ∙ rows_are_table (answer_rows options answer); kind_is = kind }
