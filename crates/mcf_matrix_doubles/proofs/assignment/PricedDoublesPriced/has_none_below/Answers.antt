use Rattle.mcf_matrix_doubles.specs.DoubleTables.{double_costs}
use Rattle.mcf_matrix_doubles.proofs.Rounding.{none_below_read}
use Rattle.mcf_matrix_doubles.proofs.assignment.PricedDoublesPriced.has_none_below.Goals as goal

pub returns : goal.returns
returns c =
    let p = c.args.self.now in
    let same = none_below_read p.unit p.is_rounded (double_costs p.matrix.now) p.row_prices.now p.column_prices.now in
    let h = c.none_below.ensures in
    ((λ t. same.1 (h.0 t)), (λ all. h.1 (same.0 all)))
