use Rattle.std.proofs.Common.{◌≡◌}
use Rattle.mcf_flows.specs.Network.{at_node, node_sum}
use Rattle.mcf_network.proofs.supplies.supply_total.Given as goal

abbrev pub invariant-loop-number : goal.invariant-loop-number
invariant-loop-number l = l.total ≡ node_sum (at_node l.net.supplies) l.number
