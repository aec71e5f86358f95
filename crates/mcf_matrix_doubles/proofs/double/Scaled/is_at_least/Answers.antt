use Rattle.std.proofs.Common.{rules, ◌≤◌, arith}
use Rattle.std.specs.Int.{w64, w128}
use Rattle.std.specs.Prelude.{FitsSigned}
use Rattle.std.proofs.lemmas.Int.{to_z-of_z}
use Rattle.mcf_matrix_doubles.proofs.Powers.{down_exact, up_exact}
use Rattle.mcf_matrix_doubles.proofs.double.Scaled.is_at_least.Goals as goal

pub returns-then-unit-self : goal.returns-then-unit-self
returns-then-unit-self c =
    let sum : FitsSigned w128 c.args.sum = search rules in
    let mantissa : FitsSigned w64 c.args.self.mantissa = search rules in
    let e = up_exact c.args.sum c.args.self.mantissa c.args.unit c.args.self.shift c.if-unit-self.true in
    let h = simp to_z-of_z at c.reaches_up.ensures in
    ((λ t. e.0 (h.0 t)), (λ le. h.1 (e.1 le)))

pub returns-else-unit-self : goal.returns-else-unit-self
returns-else-unit-self c =
    let sum : FitsSigned w128 c.args.sum = search rules in
    let mantissa : FitsSigned w64 c.args.self.mantissa = search rules in
    let less : c.args.self.shift ≤ c.args.unit = omega (arith, c.if-unit-self.false) in
    let e = down_exact c.args.sum c.args.self.mantissa c.args.unit c.args.self.shift less in
    let h = simp to_z-of_z at c.reaches_down.ensures in
    ((λ t. e.0 (h.0 t)), (λ le. h.1 (e.1 le)))
