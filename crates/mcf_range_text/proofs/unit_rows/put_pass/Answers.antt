use Rattle.std.proofs.Common.{rules, ◌≡◌, ℕ, List, [], ◌∷◌, ◌++◌, ap, ◌∙◌, codes, decimal, subst}
use Rattle.std.specs.Prelude.{OnOk}
use Rattle.mcf_answer_rows.specs.AnswerRows.{cell_under, line_at}
use Rattle.mcf_answer_rows.specs.Lines.{row_line}
use Rattle.mcf_plan_rows.specs.Cells.{amount_text, text_if}
use Rattle.mcf_range_text.proofs.ToldRows.{told_text}
use Rattle.mcf_range_text.specs.PassRangeTexts.{pass_range_row}
use Rattle.mcf_range_text.proofs.unit_rows.put_pass.Goals as goal

pub returns : goal.returns
returns c =
    let places = c.args.places.now in
    let row = c.args.row in
    let line : c.deref.result.now ≡ decimal (line_at places row) = search rules in
    let most : c.deref-2.result.now ≡ text_if (amount_text c.args.scales) c.in-Some.range.most = search rules in
    let cells = λ (a b d : List ℕ). codes "pass range" ∷ a ∷ b ∷ d ∷ [] in
    let name = cell_under (codes "name") places row in
    let same = ap (λ a. cells a c.cell_under-name.result.now c.deref-2.result.now) line
    ∙ ap (λ b. cells (decimal (line_at places row)) b c.deref-2.result.now) c.cell_under-name.ensures
    ∙ ap (cells (decimal (line_at places row)) name) most in
    subst (λ text. OnOk c.put_line.result (c.put_line.new.out.items ≡ c.args.out.now.items ++ text))
    (ap row_line same ∙ told_text (pass_range_row c.args.scales places row) c.args.told c.in-Some.range c.in-Some.is) c.put_line.ensures
