use Rattle.std.proofs.Common.{rules}
use Rattle.mcf_c.proofs.Judges.{judged_exactly}
use Rattle.mcf_c.proofs.judging.judge_instance.Goals as goal

pub returns-then-accepts : goal.returns-then-accepts
returns-then-accepts c =
    let exact = judged_exactly c.args.instance.now c.args.told.now c.args.flow.now c.args.prices.now c.node_count.ensures.well_formed in
    search rules

pub returns-else-accepts : goal.returns-else-accepts
returns-else-accepts c =
    let exact = judged_exactly c.args.instance.now c.args.told.now c.args.flow.now c.args.prices.now c.node_count.ensures.well_formed in
    search rules
