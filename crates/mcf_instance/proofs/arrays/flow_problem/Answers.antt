use Rattle.mcf_instance.specs.Arrays.{flow_problem}
use Rattle.mcf_instance.proofs.ArrayFaults.{each_well_formed}
use Rattle.mcf_instance.proofs.arrays.flow_problem.Goals as goal

pub returns-clause-well_formed : goal.returns-clause-well_formed
returns-clause-well_formed c =
    each_well_formed (flow_problem c.args.supplies.now c.args.arcs.now) c.made_of_supplies.result c.made_of_supplies.ensures.exact
    c.made_of_supplies.ensures.sound
