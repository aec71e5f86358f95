use Rattle.std.proofs.Common.{rules, ◌^◌, arith, pos, ◌-ℤ◌}
use Rattle.std.specs.Int.{w64, w128}
use Rattle.std.specs.Prelude.{FitsSigned}
use Rattle.std.proofs.lemmas.Int.{ints, to_z-of_z}
use Rattle.mcf_matrix_doubles.proofs.Judging.{negated_order}
use Rattle.mcf_matrix_doubles.proofs.double.Scaled.is_at_most.Goals as goal

pub returns : goal.returns
returns c =
    let sum : FitsSigned w128 c.args.sum = c.ranges.sum in
    let mantissa : FitsSigned w64 c.args.self.mantissa = search rules in
    let below : FitsSigned w128 (pos 0 -ℤ c.args.sum) = omega (arith, ints, c.requires.sum) in
    let negated : FitsSigned w64 (pos 0 -ℤ c.args.self.mantissa) = omega (arith, ints, c.requires.mantissa) in
    let e = negated_order c.args.sum c.args.self.mantissa (2 ^ c.args.unit) (2 ^ c.args.self.shift) in
    let h = simp to_z-of_z at c.is_at_least.ensures in
    ((λ t. e.0 (h.0 t)), (λ le. h.1 (e.1 le)))
