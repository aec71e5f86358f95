use Rattle.mcf_instance.specs.Arrays.{assignment_problem}
use Rattle.mcf_instance.proofs.ArrayFaults.{each_well_formed}
use Rattle.mcf_instance.proofs.arrays.assignment_problem.Goals as goal

pub returns-clause-well_formed : goal.returns-clause-well_formed
returns-clause-well_formed c =
    each_well_formed (assignment_problem c.args.rows c.args.columns c.args.pairs.now) c.made_of_sides.result c.made_of_sides.ensures.exact
    c.made_of_sides.ensures.sound
