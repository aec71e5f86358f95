use Rattle.std.proofs.Common.{◌≡◌, ℕ, ◌≤◌, true, length}
use Rattle.mcf_flows.specs.Blocking.{in_table}
use Rattle.mcf_flows.specs.Network.{IsNode, node_count}
use Rattle.mcf_network.proofs.supplies.all_nodes.Given as goal

abbrev pub invariant-loop-number : goal.invariant-loop-number
invariant-loop-number l =
    record {
      one_per_node : length l.set ≡ node_count l.net;
      all : (v : ℕ) → IsNode (node_count l.net) v → v ≤ l.number → in_table l.set v ≡ true;
    }
