use Rattle.mcf_answer.specs.Spelling.{flow_line}
use Rattle.mcf_answer.specs.Written.{line_text}
use Rattle.mcf_answer.proofs.Puts.{IsAt-map, puts_next, puts_stopped}
use Rattle.mcf_answer.proofs.writer.put_sent.Goals as goal

pub loop-s-preserved : goal.loop-s-preserved
loop-s-preserved c =
    puts_next line_text _ _ _ (IsAt-map flow_line _ _ _ (c.loop-s-test.true, c.s-item.is)) c.loop-s.invariant c.in_ok-put_flow.ensures

pub returns-in_err-put_flow : goal.returns-in_err-put_flow
returns-in_err-put_flow c =
    puts_stopped line_text _ _ _ (IsAt-map flow_line _ _ _ (c.loop-s-test.true, c.s-item.is)) c.from_residual.ensures.0 c.loop-s.invariant
    c.in_err-put_flow.ensures
