use Rattle.std.proofs.Common.{rules, arith, ◌^◌, pos, ◌≤ℤ◌}
use Rattle.std.proofs.Math.IntN.{◌*ℤ◌}
use Rattle.std.specs.Int.{w64, w128}
use Rattle.std.specs.Prelude.{FitsSigned}
use Rattle.std.proofs.lemmas.Int.{ints, to_z-of_z}
use Rattle.mcf_matrix_doubles.proofs.Order.{values_in_order}
use Rattle.mcf_matrix_doubles.proofs.threshold.threshold.Goals as goal

pub returns : goal.returns
returns c = λ bits le small.
    let own : FitsSigned w128 c.args.sum = c.ranges.sum in
    let mantissa : FitsSigned w64 c.of.result.mantissa = search rules in
    let reached : (c.args.sum *ℤ pos (2 ^ c.args.unit)) ≤ℤ (c.of.result.mantissa *ℤ pos (2 ^ c.of.result.shift)) =
    (simp to_z-of_z at c.is_at_least.ensures).0 c.if-not-is_at_least.false in
    omega (arith, ints, reached, c.of.ensures.value, values_in_order c.rounded_up-bits.result bits le small)
