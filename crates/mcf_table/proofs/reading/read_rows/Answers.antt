use Rattle.std.proofs.Common.{◌≡◌, ◌∙◌, ◌+◌, ◌-◌, ◌<◌, ℕ, length, take, drop, sym, ap, subst, arith, length-drop}
use Rattle.std.proofs.lemmas.List.{take_rest}
use Rattle.mcf_table.specs.LineEnds.{line_feeds}
use Rattle.mcf_table.specs.Texts.{IsText}
use Rattle.mcf_table.proofs.RowLemmas.{rows_end, rows_next}
use Rattle.mcf_table.proofs.reading.read_rows.Goals as goal

pub joined-requires : goal.joined-requires
joined-requires c =
    let row = simp take_rest at (rw c.in-Ok.is at (c.in_ok-len.ensures.ok)) in
    (rows_end c.args.separator c.args.text.now c.rows.at c.in-Ok.len c.rows.line c.len-first.result c.rows.cells c.read_row.new.cells
    c.rows.parts.items c.keep_row.new.parts.items c.rows.invariant c.len-first.ensures row c.in_ok-keep_row.ensures c.if-end-text.true).1

pub returns-then-end-text : goal.returns-then-end-text
returns-then-end-text c =
    let row = simp take_rest at (rw c.in-Ok.is at (c.in_ok-len.ensures.ok)) in
    subst (IsText c.args.separator c.args.text.now) (sym c.joined.ensures)
    ((rows_end c.args.separator c.args.text.now c.rows.at c.in-Ok.len c.rows.line c.len-first.result c.rows.cells c.read_row.new.cells
    c.rows.parts.items c.keep_row.new.parts.items c.rows.invariant c.len-first.ensures row c.in_ok-keep_row.ensures c.if-end-text.true).0)

pub rows-preserved : goal.rows-preserved
rows-preserved c =
    let text = c.args.text.now in
    let at = c.rows.at in
    let len = c.in-Ok.len in
    let row = simp take_rest at (rw c.in-Ok.is at (c.in_ok-len.ensures.ok)) in
    let below : at + len < length text = omega (arith, row.inside, length-drop at text, c.if-end-text.false, c.rows.invariant.inside) in
    let size : at + len - at ≡ len = omega arith in
    let counted = c.next_line-line.ensures.value ∙ ap (λ (n : ℕ). c.rows.line + line_feeds (take n (drop at text)) + 1) size in
    rows_next c.args.separator text at len c.rows.line c.next_line-line.result c.len-first.result c.rows.cells c.read_row.new.cells
    c.rows.parts.items c.keep_row.new.parts.items c.rows.invariant c.len-first.ensures row c.in_ok-keep_row.ensures below counted
