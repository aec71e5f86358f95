use Rattle.std.proofs.Common.{get_or, pos, rules}
use Rattle.std.specs.Prelude.{ℤ}
use Rattle.std.proofs.lemmas.Int.{to_z-of_z}
use Rattle.std.proofs.lemmas.List.{get_or_default}
use mir.Val.{SFits}
use mir.Syntax.{w128}
use Rattle.mcf_answer.specs.Private.Puts.{field_text}
use Rattle.mcf_answer.proofs.Puts.{puts_next, puts_stopped}
use Rattle.mcf_answer.proofs.writer.put_fields.Goals as goal

pub loop-number-preserved : goal.loop-number-preserved
loop-number-preserved c =
    let number : ℤ = get_or c.args.numbers.now c.loop-number.number-index (pos 0) in
    let fits : SFits w128 number = search rules in
    puts_next field_text c.args.numbers.now c.loop-number.number-index number (c.loop-number-test.true, get_or_default _ _ _ _ c.loop-number-test.true)
    c.loop-number.invariant (simp to_z-of_z at c.in_ok-put_field.ensures)

pub returns-in_err-put_field : goal.returns-in_err-put_field
returns-in_err-put_field c =
    let number : ℤ = get_or c.args.numbers.now c.loop-number.number-index (pos 0) in
    let fits : SFits w128 number = search rules in
    puts_stopped field_text c.args.numbers.now c.loop-number.number-index number (c.loop-number-test.true, get_or_default _ _ _ _ c.loop-number-test.true)
    c.from_residual.ensures.0 c.loop-number.invariant (simp to_z-of_z at c.in_err-put_field.ensures)
