use Rattle.std.proofs.Common.{◌≡◌, ◌^◌, ◌↔◌, IsTrue, pos, rules, subst, ℤ, ◌≤ℤ◌}
use Rattle.std.proofs.Math.IntN.{◌*ℤ◌}
use Rattle.std.specs.Int.{w64}
use Rattle.std.specs.Prelude.{FitsSigned, unsigned_abs}
use Rattle.std.proofs.lemmas.Int.{to_z-of_z}
use Rattle.mcf_matrix_doubles.proofs.Spans.{entry_is_within}
use Rattle.mcf_matrix_doubles.proofs.span.is_within.Goals as goal

pub returns : goal.returns
returns c =
    let m = c.of-mantissa.result.mantissa in
    let shift = c.of-mantissa.result.shift in
    let fits : FitsSigned w64 m = search rules in
    let size : FitsSigned w64 c.abs.result = search rules in
    let is : c.abs.result ≡ pos (unsigned_abs m) = simp to_z-of_z at c.abs.ensures.value in
    let reaches : IsTrue c.is_at_least.result ↔ ((pos (2 ^ 117) *ℤ pos (2 ^ c.args.unit)) ≤ℤ (c.abs.result *ℤ pos (2 ^ shift))) =
    simp to_z-of_z at c.is_at_least.ensures in
    entry_is_within c.args.bits c.args.unit shift 117 m c.is_at_least.result c.if-bits-eq-INFINITY.false c.of-mantissa.ensures.value
    (subst (λ (z : ℤ). IsTrue c.is_at_least.result ↔ ((pos (2 ^ 117) *ℤ pos (2 ^ c.args.unit)) ≤ℤ (z *ℤ pos (2 ^ shift)))) is reaches)
