use Rattle.mcf_matrix.proofs.Tests.{narrow_covers}
use Rattle.mcf_matrix.proofs.prices.covers_narrow.Goals as goal

pub returns : goal.returns
returns c =
    narrow_covers c.args.row_price c.args.column_price c.args.cost c.ranges.row_price c.ranges.column_price c.ranges.cost c.requires.row_price c.requires.column_price
