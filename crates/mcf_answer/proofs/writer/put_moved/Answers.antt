use Rattle.mcf_answer.specs.Spelling.{moved_line}
use Rattle.mcf_answer.specs.Written.{line_text}
use Rattle.mcf_answer.proofs.Puts.{IsAt-map, puts_next, puts_stopped}
use Rattle.mcf_answer.proofs.writer.put_moved.Goals as goal

pub loop-m-preserved : goal.loop-m-preserved
loop-m-preserved c =
    puts_next line_text _ _ _ (IsAt-map moved_line _ _ _ (c.loop-m-test.true, c.m-item.is)) c.loop-m.invariant c.in_ok-put_arc.ensures

pub returns-in_err-put_arc : goal.returns-in_err-put_arc
returns-in_err-put_arc c =
    puts_stopped line_text _ _ _ (IsAt-map moved_line _ _ _ (c.loop-m-test.true, c.m-item.is)) c.from_residual.ensures.0 c.loop-m.invariant
    c.in_err-put_arc.ensures
