use Rattle.std.proofs.Common.{◌≡◌}
use Rattle.mcf_flows.specs.Blocking.{in_table}
use Rattle.mcf_flows.specs.Network.{at_node, node_sum, when}
use Rattle.mcf_flows.proofs.blocking.supply_within.Given as goal

abbrev pub invariant-loop-place : goal.invariant-loop-place
invariant-loop-place l = l.total ≡ node_sum (λ v. when (in_table l.table v) (at_node l.supplies v)) l.place
