use Rattle.std.proofs.Common.{arith, subst, sym, ◌∙◌}
use Rattle.std.specs.BinaryHeap.{heap_capacity, heap_items}
use Rattle.std.specs.List.Sorted.{IsPermutation}
use Rattle.std.proofs.lemmas.List.{take_at}
use Rattle.mcf_engine.specs.Private.Queues.{IsQueue}
use Rattle.mcf_engine.proofs.Queues.{queue_sorted}
use Rattle.mcf_engine.proofs.heap.queue_anew.Goals as goal

pub returns-clause-queue : goal.returns-clause-queue
returns-clause-queue c =
    let inv = c.items.invariant in
    let sort = c.sort_unstable.ensures in
    let past = c.items-test.false in
    let wide = inv.enough in
    let fits = c.requires.enough in
    let room = c.requires.room in
    let same = c.clear.ensures.capacity in
    let sorted = queue_sorted (record { keys = c.args.keys.now; waiting = c.args.waiting.now }) c.items.order.items c.sort_unstable.new.self (heap_items c.clear.new.self)
    c.items.order.cap (heap_capacity c.clear.new.self) c.requires.keys c.requires.few (omega (arith, wide, fits)) (omega (arith, room, same)) inv.items
    (λ v n l waits. inv.queued v n (omega (arith, n, past)) waits) (subst (λ xs. IsPermutation xs c.sort_unstable.new.self) c.as_mut_slice.ensures.value sort.permutation)
    sort.sorted c.clear.ensures.items c.clear.ensures.heap_order in
    subst (λ xs. IsQueue (record { keys = c.args.keys.now; waiting = c.args.waiting.now }) xs (heap_items c.clear.new.self) c.items.order.cap (heap_capacity c.clear.new.self))
    (sym (take_at c.sort_unstable.new.self _ c.items.order.len (sort.len ∙ c.as_mut_slice.ensures.len))) sorted
