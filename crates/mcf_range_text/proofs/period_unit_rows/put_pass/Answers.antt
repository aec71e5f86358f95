use Rattle.std.proofs.Common.{rules, ◌≡◌, ℕ, List, [], ◌∷◌, ◌++◌, ap, ◌∙◌, codes, decimal, subst}
use Rattle.std.specs.Prelude.{OnOk}
use Rattle.mcf_answer_rows.specs.AnswerRows.{line_at}
use Rattle.mcf_answer_rows.specs.Lines.{row_line}
use Rattle.mcf_period_text.specs.TimedTables.{place_name, timed_in, told_row}
use Rattle.mcf_plan_rows.specs.Cells.{amount_text, text_if}
use Rattle.mcf_range_text.proofs.ToldRows.{told_text}
use Rattle.mcf_range_text.specs.PeriodUnitTexts.{period_pass_row}
use Rattle.mcf_range_text.proofs.period_unit_rows.put_pass.Goals as goal

pub returns : goal.returns
returns c =
    let t = timed_in c.args.timed in
    let o = c.args.origin in
    let line : c.deref.result.now ≡ decimal (line_at t.two.places (told_row o)) = search rules in
    let name : c.place_name-name.result.now ≡ place_name t (told_row o) = search rules in
    let most : c.deref-2.result.now ≡ text_if (amount_text c.args.scales) c.in-Some.range.most = search rules in
    let cells = λ (a b d e : List ℕ). codes "pass range" ∷ a ∷ b ∷ d ∷ e ∷ [] in
    let same = ap (λ (x : List ℕ). cells x (c.place_name-name.result.now) (c.deref-2.result.now) (c.period_name-period.result.now)) line
    ∙ ap (λ (x : List ℕ). cells (decimal (line_at t.two.places (told_row o))) x (c.deref-2.result.now) (c.period_name-period.result.now)) name
    ∙ ap (λ (x : List ℕ). cells (decimal (line_at t.two.places (told_row o))) (place_name t (told_row o)) x (c.period_name-period.result.now)) most
    ∙ ap (λ (x : List ℕ). cells (decimal (line_at t.two.places (told_row o))) (place_name t (told_row o)) (text_if (amount_text c.args.scales) c.in-Some.range.most) x) c.period_name-period.ensures in
    subst (λ text. OnOk c.put_line.result (c.put_line.new.out.items ≡ c.args.out.now.items ++ text))
    (ap row_line same ∙ told_text (period_pass_row t c.args.scales c.args.origin) c.args.told c.in-Some.range c.in-Some.is) c.put_line.ensures
