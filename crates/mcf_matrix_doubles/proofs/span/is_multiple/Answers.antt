use Rattle.std.proofs.Common.{◌≡◌, ◌-◌, ◌*◌, ◌%◌, ◌^◌, ◌<◌, eqb, min, ap, sym, arith, rules, ◌∙◌}
use Rattle.std.specs.Int.{w64}
use Rattle.std.specs.Prelude.{FitsSigned, unsigned_abs}
use Rattle.std.proofs.lemmas.Bool.{eq-eqb, eqb-true}
use Rattle.std.proofs.lemmas.Int.{ints, to_z-of_z}
use Rattle.std.proofs.lemmas.Nat.{one_shl}
use Rattle.mcf_matrix_doubles.proofs.Spans.{entry_is_multiple}
use Rattle.mcf_matrix_doubles.proofs.span.is_multiple.Goals as goal

pub returns : goal.returns
returns c =
    let m = c.of-mantissa.result.mantissa in
    let shift = c.of-mantissa.result.shift in
    let size = c.unsigned_abs.result in
    let places = c.min-places.result in
    let fits : FitsSigned w64 m = search rules in
    let is : size ≡ unsigned_abs m = simp to_z-of_z at c.unsigned_abs.ensures.value in
    let places_are : places ≡ min (c.args.unit - shift) 53 = c.min-places.ensures ∙ ap (λ n. min n 53) c.saturating_sub.ensures in
    let power : 1 * 2 ^ places % 2 ^ 64 ≡ 2 ^ places = one_shl places 64 (omega (arith, places_are)) in
    let rest : size % (1 * 2 ^ places % 2 ^ 64) ≡ unsigned_abs m % 2 ^ min (c.args.unit - shift) 53 =
    ap (λ n. size % n) power ∙ ap (λ n. n % 2 ^ places) is ∙ ap (λ n. unsigned_abs m % 2 ^ n) places_are in
    let small : unsigned_abs m < 2 ^ 53 = omega (arith, ints, c.of-mantissa.ensures.small) in
    entry_is_multiple c.args.bits c.args.unit shift m (eqb (size % (1 * 2 ^ places % 2 ^ 64)) 0) c.if-bits-eq-INFINITY.false c.of-mantissa.ensures.value small (
      (λ t. sym rest ∙ eqb-true _ _ t),
      (λ e. eq-eqb _ _ (rest ∙ e)),
    )
