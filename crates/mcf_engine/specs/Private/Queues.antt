-- The entries of a priority queue of nodes: one for each key with which a node was let wait.
use Rattle.std.specs.Prelude.{◌≡◌, ℕ, ◌+◌, ◌<◌, ◌≤◌, true, List, ◌++◌, length, map, replicate, ℤ, neg_ℤ}
use Rattle.std.specs.declared.cmp.Reverse.{Reverse}
use Rattle.std.specs.declared.cmp.Ordering.{Ordering}
use Rattle.std.specs.BinaryHeap.{IsHeap}
use Rattle.std.specs.List.{All, Contains}
use Rattle.std.specs.List.Sorted.{IsSorted}
use Rattle.std.specs.Ordering.{int_cmp, nat_cmp, ordering_then}
use Rattle.mcf_flows.specs.Limits.{node_limit}
use Rattle.mcf_flows.specs.Network.{IsNode, at_node}
use Rattle.mcf_engine.specs.Heaps.{ComesFirst, Keyed, Waits}
use Rattle.mcf_engine.specs.declared.heap.KeyEntry.{KeyEntry}

-- of two entries the one with the less key is the greater, and of equal keys the one of the less
-- number
abbrev pub by_key : Reverse KeyEntry → Reverse KeyEntry → Ordering
by_key a b = ordering_then (int_cmp b.0.key a.0.key) (nat_cmp b.0.item a.0.item)

-- an entry comes before another, or is the same
abbrev pub Precedes : Reverse KeyEntry → Reverse KeyEntry → Type 0
Precedes e f = ComesFirst e.0.key e.0.item f.0.key f.0.item

-- the entries of a sorted list, the last of which comes first, and of a heap
abbrev pub AreOrdered : List (Reverse KeyEntry) → List (Reverse KeyEntry) → Type 0
AreOrdered order list = IsSorted by_key order × IsHeap by_key list

-- an entry of a node, which is counted from 1, and its key
abbrev pub IsEntryOf : Keyed → ℕ → Reverse KeyEntry → Type 0
IsEntryOf h v e = (e.0.key ≡ at_node h.keys v) × (e.0.item + 1 ≡ v)

-- each node that waits, up to one, has an entry with its key
abbrev pub AreQueued : Keyed → ℕ → List (Reverse KeyEntry) → Type 0
AreQueued h last list =
    (v : ℕ) → IsNode (length h.waiting) v → v ≤ last → Waits h v → (e : Reverse KeyEntry) × Contains list e × IsEntryOf h v e

-- the node of an entry waits with its key
abbrev pub IsCurrent : Keyed → KeyEntry → Type 0
IsCurrent h e = Waits h (e.item + 1) × (e.key ≡ at_node h.keys (e.item + 1))

-- the entry is one of this many nodes
abbrev pub IsOfNode : ℕ → Reverse KeyEntry → Type 0
IsOfNode nodes e = e.0.item < nodes

-- each node waits with the negative of its price
abbrev pub all_waiting : List ℤ → Keyed
all_waiting prices = record { keys = map neg_ℤ prices; waiting = replicate (length prices) true }

-- keys and marks of nodes with a sorted list and a heap of entries, each with room for as many as
-- there are nodes
pub record IsQueue (h : Keyed) (order list : List (Reverse KeyEntry)) (room more : ℕ) : Type 0 where
  pub ordered : AreOrdered order list
  pub keys : length h.keys ≡ length h.waiting
  pub few : length h.waiting ≤ node_limit
  pub in_order : length h.waiting ≤ room
  pub in_heap : length h.waiting ≤ more
  pub items : All (IsOfNode (length h.waiting)) (order ++ list)
  pub queued : AreQueued h (length h.waiting) (order ++ list)
