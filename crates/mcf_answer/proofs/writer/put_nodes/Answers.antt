use Rattle.mcf_answer.specs.Spelling.{member_line}
use Rattle.mcf_answer.specs.Written.{line_text}
use Rattle.mcf_answer.proofs.Puts.{IsAt-map, puts_next, puts_stopped}
use Rattle.mcf_answer.proofs.writer.put_nodes.Goals as goal

pub loop-node-preserved : goal.loop-node-preserved
loop-node-preserved c =
    puts_next line_text _ _ _ (IsAt-map member_line _ _ _ (c.loop-node-test.true, c.node-item.is)) c.loop-node.invariant c.in_ok-put_node.ensures

pub returns-in_err-put_node : goal.returns-in_err-put_node
returns-in_err-put_node c =
    puts_stopped line_text _ _ _ (IsAt-map member_line _ _ _ (c.loop-node-test.true, c.node-item.is)) c.from_residual.ensures.0 c.loop-node.invariant
    c.in_err-put_node.ensures
