use Rattle.mcf_checker.specs.Correct.{amounts}
use Rattle.mcf_c.proofs.Fits.{flow_fits}
use Rattle.mcf_c.proofs.handing.answer_instance.Goals as goal

pub hand_flow-requires-clause-fits : goal.hand_flow-requires-clause-fits
hand_flow-requires-clause-fits c =
    let owed = rw (c.in-Flow.is) at c.in-Ok.ensures.owed in
    flow_fits c.args.instance.now (amounts c.in-Flow.answer.sent) c.node_count.ensures.well_formed owed.least.least.feasible
