use Rattle.std.proofs.Common.{◌≡◌, ◌∷◌, rules, to_z, of_z}
use mir.Syntax.{w128}
use Rattle.std.proofs.lemmas.Int.{to_z-of_z}
use Rattle.std.specs.declared.cmp.Reverse.{Reverse}
use Rattle.std.specs.BinaryHeap.{IsHeap, heap_capacity, heap_items}
use Rattle.std.specs.List.Sorted.{IsPermutation}
use Rattle.std.specs.Prelude.{vec_capacity}
use Rattle.mcf_engine.specs.Private.Queues.{IsQueue, by_key}
use Rattle.mcf_engine.specs.declared.heap.KeyEntry.{KeyEntry}
use Rattle.mcf_engine.proofs.Queues.{queue_more, seen_as}
use Rattle.mcf_engine.proofs.heap.Heap.offer.Goals as goal

pub invariant_of-self : goal.invariant_of-self
invariant_of-self c =
    let made = c.make_room.new in
    let ok = c.push.ensures.succeeds c.make_room.ensures.room in
    let e : Reverse KeyEntry = record { 0 = record { key = c.args.key; item = c.place-i.result } } in
    let one : IsPermutation (e ∷ heap_items made.entries) (heap_items c.push.new.self) = search rules in
    let heap : IsHeap by_key (heap_items c.push.new.self) = search rules in
    let queue = seen_as (λ h. IsQueue h made.order.items (heap_items made.entries) (vec_capacity made.order) (heap_capacity made.entries)) _ _ _ _ c.as_slice.ensures.value c.as_slice-2.ensures.value c.make_room.ensures.queue in
    let t : to_z w128 (of_z w128 c.args.key) ≡ c.args.key = search (rules, to_z-of_z) in
    rw t (queue_more _ made.order.items (heap_items made.entries) (heap_items c.push.new.self) e _ _ _ queue (search rules) one heap c.push.ensures.capacity)
