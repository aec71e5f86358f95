use Rattle.std.proofs.Common.{sym}
use Rattle.mcf_reading.proofs.MarkLemmas.{cells_none, table_next}
use Rattle.mcf_reading.proofs.marks.with_table.Goals as goal

pub loop-place-init : goal.loop-place-init
loop-place-init c = sym (cells_none c.args.shown)

pub loop-place-preserved : goal.loop-place-preserved
loop-place-preserved c =
    table_next c.args.shown c.loop-place.shown c.with_row-shown.result c.args.table c.args.records.now c.args.columns.now c.loop-place.place
    c.loop-place.invariant c.with_row-shown.ensures
