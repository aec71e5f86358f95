use Rattle.std.proofs.Common.{◌≡◌, ℕ, length}
use Rattle.std.specs.List.{Contains}
use Rattle.mcf_flows.specs.Network.{IsNode, node_count}
use Rattle.mcf_cancel.specs.Private.Queues.{IsQueue}
use Rattle.mcf_cancel.proofs.queue.NodeQueue.all.Given as goal

abbrev pub invariant-loop-number : goal.invariant-loop-number
invariant-loop-number l =
    record {
      valid : IsQueue l.all;
      table : length l.all.table ≡ node_count l.net;
      each : (v : ℕ) → IsNode l.number v → Contains l.all.nodes v;
    }
