use Rattle.std.proofs.Common.{[], ◌∷◌}
use Rattle.std.proofs.lemmas.Int.{to_z-of_z}
use mir.Val.{SFits}
use mir.Syntax.{w128}
use Rattle.mcf_answer.proofs.Puts.{puts_short, puts_then}
use Rattle.mcf_answer.proofs.writer.put_word_line.Goals as goal

pub returns-in_err-put_bytes-2 : goal.returns-in_err-put_bytes-2
returns-in_err-put_bytes-2 c =
    let fits : SFits w128 c.args.number = c.ranges.number in
    puts_short (10 ∷ []) c.from_residual-in_err-put_bytes-2.ensures.0 (puts_then c.in_ok-put_bytes.ensures
    (puts_then (simp to_z-of_z at c.in_ok-put_field.ensures) (puts_then c.in_ok-put_byte.ensures c.in_err-put_bytes-2.ensures)))

pub returns : goal.returns
returns c =
    let fits : SFits w128 c.args.number = c.ranges.number in
    puts_then (puts_then c.in_ok-put_bytes.ensures
    (puts_then (simp to_z-of_z at c.in_ok-put_field.ensures) (puts_then c.in_ok-put_byte.ensures c.in_ok-put_bytes-2.ensures))) c.put_byte-2.ensures
