use Rattle.std.proofs.Common.{[], ◌∷◌}
use Rattle.mcf_answer.proofs.Puts.{line_text-numbers, puts_short, puts_then}
use Rattle.mcf_answer.proofs.writer.put_line.Goals as goal

pub returns-in_err-put_fields : goal.returns-in_err-put_fields
returns-in_err-put_fields c =
    rw (line_text-numbers c.args.word.now c.args.numbers.now)
    (puts_short (10 ∷ []) c.from_residual-in_err-put_fields.ensures.0 (puts_then c.in_ok-put_bytes.ensures c.in_err-put_fields.ensures))

pub returns : goal.returns
returns c =
    rw (line_text-numbers c.args.word.now c.args.numbers.now)
    (puts_then (puts_then c.in_ok-put_bytes.ensures c.in_ok-put_fields.ensures) c.put_byte.ensures)
