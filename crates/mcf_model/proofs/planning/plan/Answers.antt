use Rattle.mcf_model.specs.Arcs.{network_of, reach_of}
use Rattle.mcf_model.proofs.Capped.{made_within}
use Rattle.mcf_model.proofs.planning.plan.Goals as goal

pub answered-requires-clause-within : goal.answered-requires-clause-within
answered-requires-clause-within g c =
    made_within (network_of (reach_of c.args.model.now) c.args.model.now) c.in-Ok.instance c.in_ok-instance.field-0 c.in-Ok.is c.in_ok-instance.ensures.value
    c.in_ok-instance.ensures.within
