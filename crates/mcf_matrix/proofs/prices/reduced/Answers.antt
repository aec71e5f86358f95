use Rattle.mcf_matrix.proofs.Tests.{difference_read}
use Rattle.mcf_matrix.proofs.prices.reduced.Goals as goal

pub returns : goal.returns
returns c =
    difference_read c.args.cost c.args.row_price c.args.column_price c.from.result c.from-2.result c.from-3.result c.ranges.cost c.ranges.row_price c.ranges.column_price
    c.from.ensures c.from-2.ensures c.from-3.ensures
