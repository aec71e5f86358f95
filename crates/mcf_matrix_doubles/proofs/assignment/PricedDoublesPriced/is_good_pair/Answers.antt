use Rattle.std.proofs.Common.{rules, ◌^◌, get_or, pos, ◌≡◌, ◌-ℤ◌, ℕ, IsSomeAnd, subst, sym}
use Rattle.std.proofs.Math.IntN.{◌*ℤ◌}
use Rattle.std.specs.Int.{w128}
use Rattle.std.specs.Prelude.{FitsSigned}
use Rattle.std.proofs.lemmas.Int.{to_z-of_z}
use Rattle.mcf_matrix.specs.PlaceSums.{at_place}
use Rattle.mcf_matrix_doubles.specs.DoubleTables.{bits_at}
use Rattle.mcf_matrix_doubles.specs.Doubles.{double_cost}
use Rattle.mcf_matrix_doubles.specs.Rounding.{cost_read}
use Rattle.mcf_matrix_doubles.proofs.Judging.{from_pair, to_pair}
use Rattle.mcf_matrix_doubles.proofs.assignment.PricedDoublesPriced.is_good_pair.Goals as goal

pub returns : goal.returns
returns c =
    let u = c.args.self.now.row_prices.now in
    let v = c.args.self.now.column_prices.now in
    let unit = c.args.self.now.unit in
    let i = c.args.row in
    let j = c.args.column in
    let bits = bits_at c.args.self.now.matrix.now i j in
    let own : FitsSigned w128 (get_or c.args.self.now.row_prices.now c.args.row (pos 0)) = search rules in
    let other : FitsSigned w128 (get_or c.args.self.now.column_prices.now c.args.column (pos 0)) = search rules in
    let h = simp to_z-of_z at c.is_good_entry.ensures in
    let r = c.args.self.now.is_rounded in
    let P = λ (n : ℕ). IsSomeAnd (cost_read unit r (double_cost n)) (λ z. z -ℤ at_place u i *ℤ pos (2 ^ unit) -ℤ at_place v j *ℤ pos (2 ^ unit) ≡ pos 0) in (
      (λ t. to_pair (cost_read unit r (double_cost bits)) unit u v i j (subst P c.entry-bits.ensures.value (h.0 t))),
      (λ p. h.1 (subst P (sym c.entry-bits.ensures.value) (from_pair (cost_read unit r (double_cost bits)) unit u v i j p))),
    )
