use Rattle.std.proofs.Common.{◌∙◌, sym, arith}
use Rattle.mcf_text.proofs.WholeLemmas.{digits_longer, value_longer, value_short, value_whole}
use Rattle.mcf_text.proofs.decimal.short_magnitude.Goals as goal

pub overflow_mul-sum : goal.overflow_mul-sum
overflow_mul-sum c =
    omega (arith, value_short c.args.digits.now c.loop-digit.digit-index c.loop-digit-test.true c.requires c.loop-digit.invariant.all)

pub overflow_add-sum : goal.overflow_add-sum
overflow_add-sum c =
    omega (arith, value_short c.args.digits.now c.loop-digit.digit-index c.loop-digit-test.true c.requires c.loop-digit.invariant.all)

pub loop-digit-preserved : goal.loop-digit-preserved
loop-digit-preserved c =
    let is = sym c.is_ascii_digit.ensures.value ∙ c.if-not-is_ascii_digit.false in
    record {
      all = digits_longer c.args.digits.now c.loop-digit.digit-index c.loop-digit-test.true c.loop-digit.invariant.all is;
      value = omega (arith, value_longer c.args.digits.now c.loop-digit.digit-index c.loop-digit-test.true is);
    }

pub returns : goal.returns
returns c =
    let whole = value_whole c.args.digits.now c.loop-digit.digit-index c.loop-digit-test.false c.loop-digit.invariant.all in
    (whole.0, c.loop-digit.invariant.value ∙ whole.1)
