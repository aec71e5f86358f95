use Rattle.std.proofs.lemmas.Int.{to_z-of_z}
use mir.Val.{SFits}
use mir.Syntax.{w128}
use Rattle.mcf_answer.proofs.Puts.{puts_or_keeps, puts_then}
use Rattle.mcf_answer.proofs.writer.put_field.Goals as goal

pub returns : goal.returns
returns c =
    let fits : SFits w128 c.args.number = c.ranges.number in
    let e = c.put_number.ensures in
    simp to_z-of_z at (puts_then c.in_ok-put_byte.ensures (puts_or_keeps {b = c.put_number.new.out} e.ok e.err e.capacity e.refused))
