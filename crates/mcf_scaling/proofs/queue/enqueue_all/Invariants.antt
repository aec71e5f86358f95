use Rattle.std.proofs.Common.{◌≡◌, ℕ, pos, length}
use Rattle.std.specs.Prelude.{◌<ℤ◌}
use Rattle.std.specs.List.{Contains}
use Rattle.mcf_flows.specs.Network.{IsNode, node_count}
use Rattle.mcf_network.specs.States.{surplus_at}
use Rattle.mcf_scaling.specs.Private.Queues.{IsQueue}
use Rattle.mcf_scaling.proofs.queue.enqueue_all.Given as goal

abbrev pub invariant-nodes : goal.invariant-nodes
invariant-nodes l =
    record {
      size : length l.queue.table ≡ node_count l.state.net;
      valid : IsQueue l.queue;
      every : (v : ℕ) → IsNode l.number v → pos 0 <ℤ surplus_at l.state v → Contains l.queue.nodes v;
    }
