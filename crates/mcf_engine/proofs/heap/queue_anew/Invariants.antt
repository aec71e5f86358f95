use Rattle.std.proofs.Common.{◌≡◌, ◌≤◌, length, vec_capacity}
use Rattle.std.specs.List.{All}
use Rattle.mcf_engine.specs.Private.Queues.{AreQueued, IsOfNode}
use Rattle.mcf_engine.proofs.heap.queue_anew.Given as goal

abbrev pub invariant-items : goal.invariant-items
invariant-items l =
    record {
      few : length l.order.items ≤ l.i;
      enough : vec_capacity l.order ≡ vec_capacity l.fn.order;
      items : All (IsOfNode (length l.waiting)) l.order.items;
      queued : AreQueued (record { keys = l.keys; waiting = l.waiting }) l.i l.order.items;
    }
