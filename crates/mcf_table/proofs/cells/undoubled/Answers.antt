use Rattle.mcf_table.proofs.CellLemmas.{undouble_end, undouble_step}
use Rattle.mcf_table.proofs.cells.undoubled.Goals as goal

pub bytes-preserved : goal.bytes-preserved
bytes-preserved c = λ inside is.
    undouble_step c.args.bytes.now c.bytes.at c.bytes.made.items c.push.new.self.items inside c.step_len-at.result c.bytes-test.true
    (c.bytes.invariant inside is) c.in_ok-push.ensures.items c.step_len-at.ensures

pub returns : goal.returns
returns c = λ inside is.
    undouble_end c.args.bytes.now c.bytes.at c.bytes.made.items inside c.bytes-test.false (c.bytes.invariant inside is)
