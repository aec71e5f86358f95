use Rattle.std.proofs.Common.{rules, ◌^◌, arith, pos, ◌+ℤ◌}
use Rattle.std.proofs.Math.IntN.{◌*ℤ◌}
use Rattle.std.specs.Int.{w64, w128}
use Rattle.std.specs.Prelude.{FitsSigned}
use Rattle.std.proofs.lemmas.Int.{ints, to_z-of_z}
use Rattle.mcf_matrix_doubles.proofs.Rounding.{rounded_is, test_fails}
use Rattle.mcf_matrix_doubles.proofs.double.Scaled.is_rounded.Goals as goal

pub returns-then-reaches : goal.returns-then-reaches
returns-then-reaches c =
    let sum : FitsSigned w128 c.args.sum = c.ranges.sum in
    let mantissa : FitsSigned w64 c.args.self.mantissa = search rules in
    let more : FitsSigned w128 (c.args.sum +ℤ pos 1) = omega (arith, ints, c.requires.sum) in
    let least = (simp to_z-of_z at c.is_at_least-reaches.ensures).0 c.if-reaches.true in
    let most = simp to_z-of_z at c.is_at_least-reaches_more.ensures in
    let is = rounded_is c.args.unit c.args.sum (c.args.self.mantissa *ℤ pos (2 ^ c.args.self.shift)) in
    test_fails c.is_at_least-reaches_more.result _ _ _ least most is

pub returns-else-reaches : goal.returns-else-reaches
returns-else-reaches c =
    let sum : FitsSigned w128 c.args.sum = c.ranges.sum in
    let mantissa : FitsSigned w64 c.args.self.mantissa = search rules in
    let least = simp to_z-of_z at c.is_at_least-reaches.ensures in
    let is = rounded_is c.args.unit c.args.sum (c.args.self.mantissa *ℤ pos (2 ^ c.args.self.shift)) in (
      (λ t. absurd (cc)),
      (λ e. let t = least.1 ((is.0 e).0) in let f = c.if-reaches.false in absurd (cc (t, f))),
    )
