use Rattle.std.proofs.Common.{rules, arith, ◌+ℤ◌}
use Rattle.std.specs.Int.{w64, w128}
use Rattle.std.specs.Prelude.{FitsSigned}
use Rattle.std.proofs.lemmas.Int.{ints, to_z-of_z}
use Rattle.mcf_matrix_doubles.proofs.Covering.{covers_exact}
use Rattle.mcf_matrix_doubles.proofs.prices.covers_exactly.Goals as goal

pub returns : goal.returns
returns c =
    let a = c.args.row_price in
    let b = c.args.column_price in
    let own : FitsSigned w128 a = c.ranges.row_price in
    let other : FitsSigned w128 b = c.ranges.column_price in
    let sum : FitsSigned w128 (a +ℤ b) = omega (arith, ints, c.requires.row_price, c.requires.column_price) in
    let mantissa : FitsSigned w64 c.of.result.mantissa = search rules in
    covers_exact c.args.bits c.args.unit c.of.result.shift a b c.of.result.mantissa c.is_at_least.result c.if-bits-eq-INFINITY.false c.of.ensures.value (simp to_z-of_z at c.is_at_least.ensures)
