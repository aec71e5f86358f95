use Rattle.std.proofs.Common.{rules, ◌≡◌, ℕ, List, [], ◌∷◌, ◌++◌, ap, ◌∙◌, codes, decimal, subst}
use Rattle.std.specs.Prelude.{OnOk}
use Rattle.mcf_answer_rows.specs.AnswerRows.{cell_under, line_at}
use Rattle.mcf_answer_rows.specs.Lines.{row_line}
use Rattle.mcf_plan_rows.specs.Cells.{amount_text, text_if}
use Rattle.mcf_range_text.proofs.ToldRows.{told_text}
use Rattle.mcf_range_text.specs.RoomRangeTexts.{room_range_row}
use Rattle.mcf_range_text.proofs.unit_rows.put_room.Goals as goal

pub returns : goal.returns
returns c =
    let routes = c.args.routes.now in
    let row = c.args.row in
    let line : c.deref.result.now ≡ decimal (line_at routes row) = search rules in
    let most : c.deref-2.result.now ≡ text_if (amount_text c.args.scales) c.in-Some.range.most = search rules in
    let cells = λ (a b d e : List ℕ). codes "room range" ∷ a ∷ b ∷ d ∷ e ∷ [] in
    let tail = cell_under (codes "from") routes row in
    let head = cell_under (codes "to") routes row in
    let same = ap (λ a. cells a c.cell_under-tail.result.now c.cell_under-head.result.now c.deref-2.result.now) line
    ∙ ap (λ b. cells (decimal (line_at routes row)) b c.cell_under-head.result.now c.deref-2.result.now) c.cell_under-tail.ensures
    ∙ ap (λ d. cells (decimal (line_at routes row)) tail d c.deref-2.result.now) c.cell_under-head.ensures
    ∙ ap (cells (decimal (line_at routes row)) tail head) most in
    subst (λ text. OnOk c.put_line.result (c.put_line.new.out.items ≡ c.args.out.now.items ++ text))
    (ap row_line same ∙ told_text (room_range_row c.args.scales routes row) c.args.told c.in-Some.range c.in-Some.is) c.put_line.ensures
