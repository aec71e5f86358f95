use Rattle.std.proofs.Common.{◌∙◌, ap}
use Rattle.mcf_flows.specs.Network.{node_count}
use Rattle.mcf_network.proofs.RemovalLaws.{net_of-node_count}
use Rattle.mcf_engine_tests.proofs.ranges.range_in.Goals as goal

pub cost_ranges-requires-clause-one_per_node : goal.cost_ranges-requires-clause-one_per_node
cost_ranges-requires-clause-one_per_node c =
    c.requires.prices.greatest.low.one_per_node ∙ ap node_count c.requires.net ∙ net_of-node_count c.args.instance.now
