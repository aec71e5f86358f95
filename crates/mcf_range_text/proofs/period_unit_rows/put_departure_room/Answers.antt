use Rattle.std.proofs.Common.{rules, ◌≡◌, ℕ, List, [], ◌∷◌, ◌++◌, ap, ◌∙◌, codes, decimal, subst}
use Rattle.std.specs.Prelude.{OnOk}
use Rattle.mcf_answer_rows.specs.AnswerRows.{line_at}
use Rattle.mcf_answer_rows.specs.Lines.{row_line}
use Rattle.mcf_period_text.specs.TimedTables.{arrives_at, leaves_from, period_name, timed_in}
use Rattle.mcf_plan_rows.specs.Cells.{amount_text, text_if}
use Rattle.mcf_range_text.proofs.ToldRows.{told_text}
use Rattle.mcf_range_text.specs.PeriodUnitTexts.{departure_room_row}
use Rattle.mcf_range_text.proofs.period_unit_rows.put_departure_room.Goals as goal

pub returns : goal.returns
returns c =
    let t = timed_in c.args.timed in
    let d = c.args.departure in
    let line : c.deref.result.now ≡ decimal (line_at t.two.routes d.row) = search rules in
    let most : c.deref-2.result.now ≡ text_if (amount_text c.args.scales) c.in-Some.range.most = search rules in
    let cells = λ (a b d e f g : List ℕ). codes "room range" ∷ a ∷ b ∷ d ∷ e ∷ f ∷ g ∷ [] in
    let same = ap (λ (x : List ℕ). cells x (c.leaves_from-tail.result.now) (c.arrives_at-head.result.now) (c.deref-2.result.now) (c.period_name-leaves.result.now) (c.period_name-arrives.result.now)) line
    ∙ ap (λ (x : List ℕ). cells (decimal (line_at t.two.routes d.row)) x (c.arrives_at-head.result.now) (c.deref-2.result.now) (c.period_name-leaves.result.now) (c.period_name-arrives.result.now)) c.leaves_from-tail.ensures
    ∙ ap (λ (x : List ℕ). cells (decimal (line_at t.two.routes d.row)) (leaves_from t d) x (c.deref-2.result.now) (c.period_name-leaves.result.now) (c.period_name-arrives.result.now)) c.arrives_at-head.ensures
    ∙ ap (λ (x : List ℕ). cells (decimal (line_at t.two.routes d.row)) (leaves_from t d) (arrives_at t d) x (c.period_name-leaves.result.now) (c.period_name-arrives.result.now)) most
    ∙ ap (λ (x : List ℕ). cells (decimal (line_at t.two.routes d.row)) (leaves_from t d) (arrives_at t d) (text_if (amount_text c.args.scales) c.in-Some.range.most) x (c.period_name-arrives.result.now)) c.period_name-leaves.ensures
    ∙ ap (λ (x : List ℕ). cells (decimal (line_at t.two.routes d.row)) (leaves_from t d) (arrives_at t d) (text_if (amount_text c.args.scales) c.in-Some.range.most) (period_name t.periods d.period) x) c.period_name-arrives.ensures in
    subst (λ text. OnOk c.put_line.result (c.put_line.new.out.items ≡ c.args.out.now.items ++ text))
    (ap row_line same ∙ told_text (departure_room_row t c.args.scales c.args.departure) c.args.told c.in-Some.range c.in-Some.is) c.put_line.ensures
