use Rattle.mcf_asking.proofs.AskedLemmas.{block_read, block_unread}
use Rattle.mcf_asking.proofs.asking.block_in.Goals as goal

pub returns-in-Ok : goal.returns-in-Ok
returns-in-Ok c =
    let read = c.in-Ok.ensures.value.0 in
    block_read c.args.word.now c.in-Ok.size read.1 c.new.result read.0.0 c.new.ensures

pub returns-in-Err : goal.returns-in-Err
returns-in-Err c = block_unread c.args.word.now c.in-Err.ensures.value.0
