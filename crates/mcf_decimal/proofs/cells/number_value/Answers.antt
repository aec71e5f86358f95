use Rattle.std.proofs.Common.{◌≡◌, ◌∙◌, ◌≤◌, ◌-◌, ap, arith, length}
use Rattle.mcf_text.specs.Whole.{signed_value}
use Rattle.mcf_decimal.specs.Numbers.{decimals}
use Rattle.mcf_decimal.specs.Signs.{unsigned}
use Rattle.mcf_decimal.proofs.ValueLemmas.{decimals_few, size_of, value_is, valued}
use Rattle.mcf_decimal.proofs.cells.number_value.Goals as goal

pub returns-in_err-mantissa : goal.returns-in_err-mantissa
returns-in_err-mantissa c =
    let body = c.split_sign-is_negative.result.1.now in
    let zeros = c.end_zeros-zeros.result in
    let is = value_is c.args.mark c.args.cell.now body c.split_at_mark-parts.result.decimals.now c.split_sign-is_negative.result.0 zeros
    c.split_sign-is_negative.ensures.sign c.split_sign-is_negative.ensures.rest c.split_at_mark-parts.ensures.decimals c.end_zeros-zeros.ensures.value in
    let said = c.signed.ensures (size_of body zeros) c.magnitude-size.ensures in
    let none = rw c.in_err-mantissa.was at said in
    rw (c.from_residual.ensures, is) none

pub overflow_cast-places : goal.overflow_cast-places
overflow_cast-places c =
    let decs = c.split_at_mark-parts.result.decimals.now in
    let same : decs ≡ decimals c.args.mark (unsigned c.args.cell.now) =
    c.split_at_mark-parts.ensures.decimals ∙ ap (decimals c.args.mark) c.split_sign-is_negative.ensures.rest in
    let few : length decs ≤ 1000 = omega (arith, ap length same, decimals_few c.args.mark c.args.cell.now c.requires) in
    omega (arith, few)

pub returns : goal.returns
returns c =
    let body = c.split_sign-is_negative.result.1.now in
    let zeros = c.end_zeros-zeros.result in
    let decs = c.split_at_mark-parts.result.decimals.now in
    let is = value_is c.args.mark c.args.cell.now body decs c.split_sign-is_negative.result.0 zeros
    c.split_sign-is_negative.ensures.sign c.split_sign-is_negative.ensures.rest c.split_at_mark-parts.ensures.decimals c.end_zeros-zeros.ensures.value in
    let said = c.signed.ensures (size_of body zeros) c.magnitude-size.ensures in
    let some = rw c.in_ok-mantissa.was at said in
    valued c.args.mark c.args.cell.now (signed_value c.split_sign-is_negative.result.0 (size_of body zeros)) c.in_ok-mantissa.mantissa
    (length decs - zeros) is some.0 some.1
