use Rattle.std.proofs.Common.{◌<◌, arith, length}
use Rattle.mcf_text.proofs.LeadingLemmas.{are_leading, counted_all, counted_more, counted_other, value_before}
use Rattle.mcf_text.proofs.WholeLemmas.{digits_longer, value_longer}
use Rattle.mcf_text.proofs.leading.digits_among.Goals as goal

pub returns-then-digit-gt9 : goal.returns-then-digit-gt9
returns-then-digit-gt9 c =
    let l = c.digits.invariant in
    let bs = c.args.bytes.now in
    let is = c.digit_of-digit.ensures.other (omega (arith, c.if-digit-gt9.true)) in
    let other = counted_other bs c.digits.count (omega (arith, c.digits-test.true, l.most.0)) (omega (arith, c.digits-test.true, l.most.1)) is in
    let a = are_leading bs c.digits.count c.digits.value (omega (arith, l.inside, l.most.0), omega (arith, l.inside, l.most.1)) l.all l.value l.counted other in
    record { count = a.counted; value = a.valued; digits = a.digits; few = a.few; small = a.small }

pub overflow_mul-value : goal.overflow_mul-value
overflow_mul-value c =
    let l = c.digits.invariant in
    omega (arith, l.value, value_before c.args.bytes.now c.digits.count (omega (arith, c.digits-test.true, l.most.0)) l.all)

pub overflow_add-value : goal.overflow_add-value
overflow_add-value c =
    let l = c.digits.invariant in
    omega (arith, l.value, value_before c.args.bytes.now c.digits.count (omega (arith, c.digits-test.true, l.most.0)) l.all)

pub digits-preserved : goal.digits-preserved
digits-preserved c =
    let l = c.digits.invariant in
    let bs = c.args.bytes.now in
    let said = c.digit_of-digit.ensures.digit (omega (arith, c.if-digit-gt9.false)) in
    let is = said.0 in
    let few : c.digits.count < 18 = omega (arith, c.digits-test.true, l.most.0) in
    let inside : c.digits.count < length bs = omega (arith, c.digits-test.true, l.most.1) in
    record {
      inside = omega (arith, c.digits-test.true);
      most = l.most;
      all = digits_longer bs c.digits.count inside l.all is;
      value = omega (arith, l.value, said.1, value_longer bs c.digits.count inside is);
      counted = omega (arith, l.counted, counted_more bs c.digits.count few inside is);
    }

pub returns : goal.returns
returns c =
    let l = c.digits.invariant in
    let bs = c.args.bytes.now in
    let all = counted_all bs c.digits.count (omega (arith, c.digits-test.false, c.requires)) in
    let a = are_leading bs c.digits.count c.digits.value (omega (arith, l.inside, l.most.0), omega (arith, l.inside, l.most.1)) l.all l.value l.counted all in
    record { count = a.counted; value = a.valued; digits = a.digits; few = a.few; small = a.small }
