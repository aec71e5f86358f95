use Rattle.mcf_matrix_doubles.proofs.BitRows.{first_in_row, rows_more}
use Rattle.mcf_matrix_doubles.proofs.double_matrix.first_refused.Goals as goal

pub returns-in-Some : goal.returns-in-Some
returns-in-Some c =
    first_in_row (record { entries = c.args.bits.now; rows = c.args.rows; columns = c.args.columns; stride = c.args.stride })
    c.loop-row.row c.in-Some.column c.requires c.loop-row-test.true c.loop-row.invariant c.in-Some.ensures

pub loop-row-preserved : goal.loop-row-preserved
loop-row-preserved c =
    rows_more (record { entries = c.args.bits.now; rows = c.args.rows; columns = c.args.columns; stride = c.args.stride })
    c.loop-row.row c.requires c.loop-row-test.true c.loop-row.invariant c.in_default.ensures
