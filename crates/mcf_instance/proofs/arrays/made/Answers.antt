use Rattle.mcf_instance.proofs.ArrayFaults.{arc_refused_at_end, made_at_end}
use Rattle.mcf_instance.proofs.arrays.made.Goals as goal

pub returns-in-Some-clause-exact : goal.returns-in-Some-clause-exact
returns-in-Some-clause-exact c = λ g before took. arc_refused_at_end g c.in-Some.fault before.0 before.1 (rw c.in-Some.is at took)

pub returns-in-None-clause-exact : goal.returns-in-None-clause-exact
returns-in-None-clause-exact c = λ g before took.
    made_at_end g c.into_instance.result c.args.state before.0 before.1 (rw c.in-None.is at took) c.into_instance.ensures.value
