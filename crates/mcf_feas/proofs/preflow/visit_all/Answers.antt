use Rattle.mcf_feas.proofs.Excess.{pushed_more}
use Rattle.mcf_feas.proofs.preflow.visit_all.Goals as goal

pub visits-preserved : goal.visits-preserved
visits-preserved c =
    pushed_more c.args.state.now c.visits.state c.visit.new.state c.visits.invariant c.visit.ensures
