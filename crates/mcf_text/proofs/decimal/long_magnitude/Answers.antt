use Rattle.std.proofs.Common.{◌∙◌, sym, ◌+◌, arith}
use Rattle.mcf_text.proofs.WholeLemmas.{digits_after, value_front, value_whole}
use Rattle.mcf_text.proofs.decimal.long_magnitude.Goals as goal

pub loop-digit-init : goal.loop-digit-init
loop-digit-init c =
    let told = c.in_ok-short_magnitude.ensures in
    let front = value_front c.args.digits.now c.split_at.result.0.now c.from-sum.result c.split_at.ensures.front told.0 (c.from-sum.ensures ∙ told.1) in
    record { all = front.0; value = front.1 }

pub loop-digit-preserved : goal.loop-digit-preserved
loop-digit-preserved c =
    let is = sym c.is_ascii_digit.ensures.value ∙ c.if-not-is_ascii_digit.false in
    let more = digits_after c.args.digits.now c.split_at.result.1.now 17 c.loop-digit.digit-index c.split_at.ensures.back c.loop-digit-test.true
    c.loop-digit.invariant.all is in
    record { all = more.0; value = omega (arith, more.1) }

pub returns : goal.returns
returns c =
    let whole = value_whole c.args.digits.now (17 + c.loop-digit.digit-index) (omega (arith, c.split_at.ensures.back_len)) c.loop-digit.invariant.all in
    (whole.0, rw (← whole.1) c.loop-digit.invariant.value)
