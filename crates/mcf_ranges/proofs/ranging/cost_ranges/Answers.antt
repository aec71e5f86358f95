use Rattle.mcf_ranges.proofs.Tasks.{wants_nodes}
use Rattle.mcf_ranges.proofs.ranging.cost_ranges.Goals as goal

pub returns-clause-wants : goal.returns-clause-wants
returns-clause-wants c = wants_nodes c.ranges-2.result c.args.instance.now c.args.arcs.now c.node_count-nodes.ensures.well_formed c.requires.arcs c.ranges-2.ensures.wants
