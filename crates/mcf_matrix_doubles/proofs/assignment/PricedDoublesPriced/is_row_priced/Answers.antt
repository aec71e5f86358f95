use Rattle.std.proofs.Common.{rules, get_or, pos}
use Rattle.std.specs.Int.{w128}
use Rattle.std.specs.Prelude.{FitsSigned}
use Rattle.std.proofs.lemmas.Int.{to_z-of_z}
use Rattle.mcf_matrix_doubles.proofs.Judging.{priced_from, priced_to}
use Rattle.mcf_matrix_doubles.proofs.assignment.PricedDoublesPriced.is_row_priced.Goals as goal

pub returns : goal.returns
returns c =
    let prices = c.args.self.now.row_prices.now in
    let unit = c.args.self.now.unit in
    let fits : FitsSigned w128 (get_or c.args.self.now.row_prices.now c.args.row (pos 0)) = search rules in
    let h = simp to_z-of_z at c.is_priced.ensures in (
      (λ t. priced_to unit prices c.args.row c.args.is_matched (h.0 t)),
      (λ p. h.1 (priced_from unit prices c.args.row c.args.is_matched p)),
    )
