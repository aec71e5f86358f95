use Rattle.std.proofs.Common.{rules, ◌≡◌, ℕ, suc, ◌+◌, arith, List, [], ◌∷◌, ◌++◌, ap, ◌∙◌, codes, decimal, subst}
use Rattle.std.specs.Prelude.{OnOk}
use Rattle.mcf_answer_rows.specs.AnswerRows.{line_at}
use Rattle.mcf_answer_rows.specs.Lines.{row_line}
use Rattle.mcf_period_text.specs.TimedTables.{period_name, place_name, timed_in}
use Rattle.mcf_plan_rows.specs.Cells.{amount_text, text_if}
use Rattle.mcf_range_text.proofs.ToldRows.{told_text}
use Rattle.mcf_range_text.specs.PeriodUnitTexts.{keep_room_row}
use Rattle.mcf_range_text.proofs.period_unit_rows.put_keep_room.Goals as goal

pub returns : goal.returns
returns c =
    let t = timed_in c.args.timed in
    let s = c.args.store in
    let line : c.deref.result.now ≡ decimal (line_at t.two.places s.row) = search rules in
    let most : c.deref-2.result.now ≡ text_if (amount_text c.args.scales) c.in-Some.range.most = search rules in
    let name : c.place_name-name.result.now ≡ place_name t s.row = c.place_name-name.ensures in
    let after : c.period_name-after.result.now ≡ period_name t.periods s.period = c.period_name-after.ensures in
    let one_more : s.period + 1 ≡ suc s.period = omega arith in
    let next : c.period_name-next.result.now ≡ period_name t.periods (suc s.period) =
    c.period_name-next.ensures ∙ ap (λ (n : ℕ). period_name t.periods n) one_more in
    let cells = λ (a b d e f : List ℕ). codes "keep room range" ∷ a ∷ b ∷ d ∷ e ∷ f ∷ [] in
    let same = ap (λ (x : List ℕ). cells x (c.place_name-name.result.now) (c.deref-2.result.now) (c.period_name-after.result.now) (c.period_name-next.result.now)) line
    ∙ ap (λ (x : List ℕ). cells (decimal (line_at t.two.places s.row)) x (c.deref-2.result.now) (c.period_name-after.result.now) (c.period_name-next.result.now)) name
    ∙ ap (λ (x : List ℕ). cells (decimal (line_at t.two.places s.row)) (place_name t s.row) x (c.period_name-after.result.now) (c.period_name-next.result.now)) most
    ∙ ap (λ (x : List ℕ). cells (decimal (line_at t.two.places s.row)) (place_name t s.row) (text_if (amount_text c.args.scales) c.in-Some.range.most) x (c.period_name-next.result.now)) after
    ∙ ap (λ (x : List ℕ). cells (decimal (line_at t.two.places s.row)) (place_name t s.row) (text_if (amount_text c.args.scales) c.in-Some.range.most) (period_name t.periods s.period) x) next in
    subst (λ text. OnOk c.put_line.result (c.put_line.new.out.items ≡ c.args.out.now.items ++ text))
    (ap row_line same ∙ told_text (keep_room_row t c.args.scales c.args.store) c.args.told c.in-Some.range c.in-Some.is) c.put_line.ensures
