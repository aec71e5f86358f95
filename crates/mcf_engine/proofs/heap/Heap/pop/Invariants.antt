use Rattle.std.proofs.Common.{◌≡◌, ◌++◌, length, vec_capacity}
use Rattle.std.specs.BinaryHeap.{heap_capacity, heap_items}
use Rattle.mcf_engine.specs.Private.Queues.{IsQueue}
use Rattle.mcf_engine.proofs.heap.Heap.pop.Given as goal

abbrev pub invariant-entries : goal.invariant-entries
invariant-entries l =
    record {
      same : record { keys = l.self-inside.keys.items; waiting = l.self-inside.waiting.items } ≡ l.fn.self;
      queue : IsQueue (record { keys = l.self-inside.keys.items; waiting = l.self-inside.waiting.items }) l.self-inside.order.items (heap_items l.self-inside.entries) (vec_capacity l.self-inside.order) (heap_capacity l.self-inside.entries);
    }

abbrev pub decreases-entries : goal.decreases-entries
decreases-entries l = length (l.self-inside.order.items ++ heap_items l.self-inside.entries)
