use Rattle.std.proofs.Common.{◌+◌, arith, subst, sym}
use Rattle.std.proofs.lemmas.List.{take_rest}
use Rattle.mcf_instance.specs.Private.PlainLines.{HasDigits}
use Rattle.mcf_instance.proofs.PlainLines.{digits_from, plain_value}
use Rattle.mcf_instance.proofs.reader.plain.digits_at.Goals as goal

pub returns : goal.returns
returns c =
    let text = c.args.text.now in
    let d = c.leading_digits-digits.ensures in
    let value = c.leading_digits-digits.result.value in
    let count = c.leading_digits-digits.result.count in
    let digits = simp take_rest at d.digits in
    let is = simp take_rest at d.value in
    let few = simp take_rest at d.few in
    subst (HasDigits text c.args.start (c.args.start + count)) (sym (plain_value value d.small))
    (digits_from text c.args.start count value c.requires (omega (arith, c.if-digits-eq0.false)) (omega (arith, few)) digits is d.small)
