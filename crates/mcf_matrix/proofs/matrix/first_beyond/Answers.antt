use Rattle.mcf_matrix.specs.Tables.{IsSmallEntry}
use Rattle.mcf_matrix.proofs.Rows.{first_in_row, rows_more}
use Rattle.mcf_matrix.proofs.matrix.first_beyond.Goals as goal

pub returns-in-Some : goal.returns-in-Some
returns-in-Some c =
    first_in_row (record { entries = c.args.costs.now; rows = c.args.rows; columns = c.args.columns; stride = c.args.stride })
    c.loop-row.row c.in-Some.column c.requires c.loop-row-test.true c.loop-row.invariant c.in-Some.ensures

pub loop-row-preserved : goal.loop-row-preserved
loop-row-preserved c =
    rows_more IsSmallEntry (record { entries = c.args.costs.now; rows = c.args.rows; columns = c.args.columns; stride = c.args.stride })
    c.loop-row.row c.requires c.loop-row-test.true c.loop-row.invariant c.in_default.ensures
