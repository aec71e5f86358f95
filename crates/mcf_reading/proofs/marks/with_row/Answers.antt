use Rattle.std.proofs.Common.{◌∙◌, sym, ap}
use Rattle.mcf_decimal.specs.Numbers.{mark_in}
use Rattle.mcf_reading.specs.Private.Found.{with_mark}
use Rattle.mcf_reading.proofs.MarkLemmas.{cells_none, row_next}
use Rattle.mcf_reading.proofs.marks.with_row.Goals as goal

pub loop-column-init : goal.loop-column-init
loop-column-init c = sym (cells_none c.args.shown)

pub loop-column-preserved : goal.loop-column-preserved
loop-column-preserved c =
    let shown = c.loop-column.shown in
    row_next c.args.shown shown c.with_mark-shown.result c.args.table c.args.records.now c.args.columns.now c.args.row c.loop-column.column-index _
    c.loop-column-test.true c.loop-column.invariant
    (c.with_mark-shown.ensures
    ∙ ap (with_mark shown.mark shown.other _) (c.mark_in.ensures ∙ ap mark_in c.cell_at-cell.ensures))
