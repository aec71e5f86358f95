-- What the entries of a priority queue say of the nodes that wait.
use Rattle.std.proofs.Common.{◌≡◌, ◌≢◌, ℕ, suc, ◌+◌, ◌-◌, ◌<◌, ◌≤◌, Bool, true, false, List, [], ◌∷◌, ◌++◌, get_or, length, set, ℤ, pos, refl, sym, ap, subst}
use Rattle.std.proofs.Common.{◌∙◌, arith, ◌⊎◌, inl, inr, length-set}
use Rattle.std.specs.declared.cmp.Reverse.{Reverse}
use Rattle.std.specs.BinaryHeap.{IsHeap, IsUpperBound}
use Rattle.std.specs.Borrow.{Bor}
use Rattle.std.specs.Cmp.{IsTotalOrder, Some-then}
use Rattle.std.specs.List.{All, Contains}
use Rattle.std.specs.List.Sorted.{IsPermutation, IsSorted}
use Rattle.std.specs.Option.{option_partial_cmp}
use Rattle.std.specs.Ordering.{int_cmp, is_lt, nat_cmp, ordering_then, partial_lt, partial_ordering_then}
use Rattle.std.specs.Prelude.{IfSome, None, Option, Some, option_to_list, slice_index_or}
use Rattle.std.specs.Slice.{IsGetResult, IsItemAt}
use Rattle.std.proofs.lemmas.Bool.{cases_Bool, true≢false}
use Rattle.std.proofs.lemmas.Bool.Decides.{nat_tests}
use Rattle.std.proofs.lemmas.Cmp.{back_total, int_cmp_total, nat_cmp_total, on_total, then_total}
use Rattle.std.proofs.lemmas.Int.{ints}
use Rattle.std.proofs.lemmas.List.{append-nil, append_assoc, get_or_default, get_or_push, length_push}
use Rattle.std.proofs.lemmas.List.Elements.{All-append, All-cons, All-contains, All-from_recursion, All-head, All-pop, All-tail, All-weaker, Contains-append_left}
use Rattle.std.proofs.lemmas.List.Sorted.{All-permutation, Contains-permutation, IsPermutation-append_right, IsPermutation-middle, IsPermutation-sym, IsPermutation-trans}
use Rattle.std.proofs.lemmas.List.Sorted.{ranks_by, sorted_far}
use Rattle.mcf_flows.specs.Blocking.{in_table}
use Rattle.mcf_flows.specs.Limits.{node_limit}
use Rattle.mcf_flows.specs.Network.{IsNode, at_node}
use Rattle.mcf_network.specs.NodeSets.{no_nodes}
use Rattle.mcf_network.proofs.Lists.{Contains-cons, Contains-first, Contains-later}
use Rattle.mcf_engine.specs.Heaps.{ComesFirst, IsFirst, Keyed, NoneWaits, Waits}
use Rattle.mcf_engine.specs.Private.Queues.{AreOrdered, AreQueued, IsCurrent, IsEntryOf, IsOfNode, IsQueue, Precedes, by_key}
use Rattle.mcf_engine.specs.declared.heap.KeyEntry.{KeyEntry}
use Rattle.mcf_network.proofs.Marks.{read_set}

-- an entry that isn't less than another comes first
comes_first : (x y : ℤ) (i j : ℕ) → is_lt (ordering_then (int_cmp y x) (nat_cmp j i)) ≡ false → ComesFirst x i y j
comes_first x y i j h = grind (arith, ints, nat_tests)

-- one that is less comes last
comes_last : (x y : ℤ) (i j : ℕ) → is_lt (ordering_then (int_cmp y x) (nat_cmp j i)) ≡ true → ComesFirst y j x i
comes_last x y i j h = grind (arith, ints, nat_tests)

-- one after the other
precedes_join : (e f g : Reverse KeyEntry) → Precedes e f → Precedes f g → Precedes e g
precedes_join e f g (inl a) (inl b) = inl (omega (arith, ints, a, b))
precedes_join e f g (inl a) (inr b) = (let same = b.0 in inl (omega (arith, ints, a, same)))
precedes_join e f g (inr a) (inl b) = (let same = a.0 in inl (omega (arith, ints, b, same)))
precedes_join e f g (inr a) (inr b) =
    (let same = a.0 in let same' = b.0 in let i = a.1 in let j = b.1 in inr (omega (arith, ints, same, same'), omega (arith, i, j)))

-- the first of a heap precedes all of it
first_of_heap : (e : Reverse KeyEntry) (list : List (Reverse KeyEntry)) → IsUpperBound by_key e list → All (Precedes e) list
first_of_heap e list bound =
    All-weaker (λ f. is_lt (by_key e f) ≡ false) (Precedes e) (λ f. comes_first e.0.key f.0.key e.0.item f.0.item) list
    (All-from_recursion (λ f. is_lt (by_key e f) ≡ false) list bound)

by_key_total : IsTotalOrder by_key
by_key_total = back_total (on_total (λ (e : Reverse KeyEntry). e.0) (then_total (on_total (λ (e : KeyEntry). e.key) int_cmp_total) (on_total (λ (e : KeyEntry). e.item) nat_cmp_total)))

-- the last of a sorted list precedes all of it
last_of_order : (order : List (Reverse KeyEntry)) → IsSorted by_key order → (e d : Reverse KeyEntry) → e ≡ get_or order (length order - 1) d → All (Precedes e) order
last_of_order order sorted e d is k d' l =
    let far = sorted_far (λ x y. is_lt (by_key x y)) (ranks_by by_key_total (λ x. x)) order sorted k (length order - 1) d' (omega (arith, l)) (omega (arith, l)) in
    let at : get_or order (length order - 1) d' ≡ e = get_or_default order (length order - 1) d' d (omega (arith, l)) ∙ sym is in
    comes_first _ _ _ _ (subst (λ z. is_lt (by_key z (get_or order k d')) ≡ false) at far)

-- a read of the mark of a node after a write of an item's
read_item : (table : List Bool) (i v : ℕ) (b : Bool) → i < length table → 1 ≤ v
    → ((v ≡ i + 1) × (in_table (set table i b) v ≡ b)) ⊎ ((v ≢ i + 1) × (in_table (set table i b) v ≡ in_table table v))
read_item table i v b l low = elim (read_set table i (v - 1) b false l) [
  | inl here ↦ (let at = here.0 in inl (omega (arith, at, low), here.1))
  | inr other ↦ inr ((λ (e : v ≡ i + 1). other.0 (omega (arith, e))), other.1)
]

none_marked : (table : List Bool) → ((i : ℕ) → i < length table → slice_index_or table i false ≡ false) → table ≡ no_nodes (length table)
none_marked [] none = refl
none_marked (b ∷ table) none =
    ap (λ c. c ∷ table) (none 0 (omega arith)) ∙ ap (λ t. false ∷ t) (none_marked table (λ i l. none (suc i) (omega arith)))

-- what holds of keys and marks holds of lists that are the same
pub seen_as : (P : Keyed → Type 0) (keys keys' : List ℤ) (marks marks' : List Bool) → keys ≡ keys' → marks ≡ marks'
    → P (record { keys = keys; waiting = marks }) → P (record { keys = keys'; waiting = marks' })
seen_as P keys keys' marks marks' same same' holds =
    subst (λ k. P (record { keys = k; waiting = marks' })) same (subst (λ w. P (record { keys = keys; waiting = w })) same' holds)

-- if there is no entry, no node waits
pub none_waits : (h : Keyed) (order list : List (Reverse KeyEntry)) (room more : ℕ) → IsQueue h order list room more → order ++ list ≡ [] → NoneWaits h
none_waits h order list room more queue none = none_marked h.waiting (λ i l. elim (cases_Bool (slice_index_or h.waiting i false)) [
  | inl e ↦ (
      let at : i + 1 - 1 ≡ i = omega arith in
      let found = queue.queued (i + 1) (omega (arith, l)) (omega (arith, l)) (ap (λ k. slice_index_or h.waiting k false) at ∙ e) in
      let n = found.1.1 in let empty = ap length none in absurd (omega (arith, n, empty)))
  | inr e ↦ e
])

module _ (h : Keyed) (order list order' list' : List (Reverse KeyEntry)) (e : Reverse KeyEntry) (p : IsPermutation (order ++ list) (e ∷ (order' ++ list')))
    (room more : ℕ) (queue : IsQueue h order list room more) (ordered : AreOrdered order' list') where
  left : All (IsOfNode (length h.waiting)) (e ∷ (order' ++ list'))
  left = All-permutation (IsOfNode (length h.waiting)) (order ++ list) (e ∷ (order' ++ list')) p queue.items

  pub own_item : IsOfNode (length h.waiting) e
  own_item = All-head (IsOfNode (length h.waiting)) e (order' ++ list') left

  taken_node : IsNode (length h.waiting) (e.0.item + 1)
  taken_node = omega (arith, own_item)

  here_or_left : (f : Reverse KeyEntry) → Contains (order ++ list) f → (e ≡ f) ⊎ Contains (order' ++ list') f
  here_or_left f has = Contains-cons e (order' ++ list') f (Contains-permutation (order ++ list) (e ∷ (order' ++ list')) f p has)

  -- an entry of the same node with its key
  current : (v : ℕ) → Waits h v → (f : Reverse KeyEntry) → IsEntryOf h v f → e ≡ f → IsCurrent h e.0
  current v waits f of is =
      let node : e.0.item + 1 ≡ v = ap (λ (x : Reverse KeyEntry). x.0.item + 1) is ∙ of.1 in
      (subst (λ u. Waits h u) (sym node) waits, ap (λ (x : Reverse KeyEntry). x.0.key) is ∙ of.0 ∙ ap (λ u. at_node h.keys u) (sym node))

  -- an entry of another key than its node's, or of a node that doesn't wait, is of no account
  pub without_stale : ¬ IsCurrent h e.0 → IsQueue h order' list' room more
  without_stale stale = record {
    ordered = ordered;
    keys = queue.keys;
    few = queue.few;
    in_order = queue.in_order;
    in_heap = queue.in_heap;
    items = All-tail (IsOfNode (length h.waiting)) e (order' ++ list') left;
    queued = λ v n l waits.
        let found = queue.queued v n l waits in
        elim (here_or_left found.0 found.1) [
          | inl is ↦ absurd (stale (current v waits found.0 found.2 is))
          | inr has ↦ (found.0, has, found.2)
        ];
  }

  -- the node of an entry that is taken out waits no more
  pub without_taken : IsQueue (record h { waiting = set h.waiting e.0.item false }) order' list' room more
  without_taken = record {
    ordered = ordered;
    keys = queue.keys ∙ sym (length-set h.waiting e.0.item false);
    few = rw (length-set h.waiting e.0.item false) queue.few;
    in_order = rw (length-set h.waiting e.0.item false) queue.in_order;
    in_heap = rw (length-set h.waiting e.0.item false) queue.in_heap;
    items = rw (length-set h.waiting e.0.item false) (All-tail (IsOfNode (length h.waiting)) e (order' ++ list') left);
    queued = λ v n l waits.
        let count = length-set h.waiting e.0.item false in
        let read = read_item h.waiting e.0.item v false (omega (arith, own_item)) (omega (arith, n)) in
        elim read [
          | inl here ↦ absurd (true≢false (sym waits ∙ here.1))
          | inr other ↦ (
              let found = queue.queued v (omega (arith, n, count)) (omega (arith, n, count)) (sym other.1 ∙ waits) in
              elim (here_or_left found.0 found.1) [
                | inl is ↦ absurd (other.0 (sym (ap (λ (x : Reverse KeyEntry). x.0.item + 1) is ∙ found.2.1)))
                | inr has ↦ (found.0, has, found.2)
              ])
        ];
  }

  -- and it comes before all that wait
  pub taken_is_first : IsCurrent h e.0 → All (Precedes e) (order' ++ list') → IsFirst h (e.0.item + 1)
  taken_is_first current_is before = record {
    is_node = taken_node;
    waits = current_is.0;
    precedes = λ w n waits.
        let found = queue.queued w n (omega (arith, n)) waits in
        let first : Precedes e found.0 = elim (here_or_left found.0 found.1) [
          | inl is ↦ subst (Precedes e) is (inr (refl, omega arith))
          | inr has ↦ All-contains (Precedes e) (order' ++ list') found.0 before has
        ] in
        let key = found.2.0 in let node = found.2.1 in let own = current_is.1 in
        elim first [
          | inl less ↦ inl (omega (arith, ints, less, key, own))
          | inr tie ↦ (let same = tie.0 in let number = tie.1 in inr (omega (arith, ints, same, key, own), omega (arith, number, node)))
        ];
  }

-- a read of the key of a node after a write of an item's
read_key : (keys : List ℤ) (i v : ℕ) (key : ℤ) → i < length keys → 1 ≤ v
    → (v ≡ i + 1 → at_node (set keys i key) v ≡ key) × (v ≢ i + 1 → at_node (set keys i key) v ≡ at_node keys v)
read_key keys i v key l low = elim (read_set keys i (v - 1) key (pos 0) l) [
  | inl here ↦ (let at = here.0 in ((λ _. here.1), λ (n : v ≢ i + 1). absurd (n (omega (arith, at, low)))))
  | inr other ↦ ((λ (e : v ≡ i + 1). absurd (other.0 (omega (arith, e)))), λ _. other.1)
]

-- one entry more in the heap, for a node that waits with its key from now on
pub queue_more : (h : Keyed) (order list list' : List (Reverse KeyEntry)) (e : Reverse KeyEntry) (room more more' : ℕ) → IsQueue h order list room more
    → e.0.item < length h.waiting → IsPermutation (e ∷ list) list' → IsHeap by_key list' → more ≤ more'
    → IsQueue (record { keys = set h.keys e.0.item e.0.key; waiting = set h.waiting e.0.item true }) order list' room more'
queue_more h order list list' e room more more' queue own one heap le =
    let count = length-set h.waiting e.0.item true in
    let same = queue.keys in
    let put : IsPermutation (e ∷ (order ++ list)) (order ++ list') = IsPermutation-trans (e ∷ (order ++ list)) (order ++ e ∷ list) (order ++ list')
    (IsPermutation-sym (order ++ e ∷ list) (e ∷ (order ++ list)) (IsPermutation-middle order e list)) (IsPermutation-append_right order (e ∷ list) list' one) in
    record {
      ordered = (queue.ordered.0, heap);
      keys = length-set h.keys e.0.item e.0.key ∙ queue.keys ∙ sym count;
      few = rw count queue.few;
      in_order = rw count queue.in_order;
      in_heap = (let fits = queue.in_heap in omega (arith, fits, le, count));
      items = rw count (All-permutation (IsOfNode (length h.waiting)) (e ∷ (order ++ list)) (order ++ list') put
          (All-cons (IsOfNode (length h.waiting)) e (order ++ list) own queue.items));
      queued = λ w n l waits.
          let price = read_key h.keys e.0.item w e.0.key (omega (arith, own, same)) (omega (arith, n)) in
          elim (read_item h.waiting e.0.item w true own (omega (arith, n))) [
            | inl here ↦ (e, Contains-permutation (e ∷ (order ++ list)) (order ++ list') e put (Contains-first e (order ++ list)), (sym (price.0 here.0), sym here.0))
            | inr other ↦ (
                let found = queue.queued w (omega (arith, n, count)) (omega (arith, n, count)) (sym other.1 ∙ waits) in (
                  found.0,
                  Contains-permutation (e ∷ (order ++ list)) (order ++ list') found.0 put (Contains-later e found.0 (order ++ list) found.1),
                  (found.2.0 ∙ sym (price.1 other.0), found.2.1),
                ))
          ];
    }

-- entries that are sorted, with none in the heap
pub queue_sorted : (h : Keyed) (list order none : List (Reverse KeyEntry)) (room more : ℕ) → length h.keys ≡ length h.waiting → length h.waiting ≤ node_limit
    → length h.waiting ≤ room → length h.waiting ≤ more → All (IsOfNode (length h.waiting)) list → AreQueued h (length h.waiting) list
    → IsPermutation list order → IsSorted by_key order → none ≡ [] → IsHeap by_key none → IsQueue h order none room more
queue_sorted h list order none room more keys few in_order in_heap items queued moved sorted is heap =
    let whole : order ++ none ≡ order = ap (λ xs. order ++ xs) is ∙ append-nil order in
    record {
      ordered = (sorted, heap);
      keys = keys;
      few = few;
      in_order = in_order;
      in_heap = in_heap;
      items = rw whole (All-permutation (IsOfNode (length h.waiting)) list order moved items);
      queued = λ v n l waits.
          let found = queued v n l waits in
          (found.0, Contains-append_left order none found.0 (Contains-permutation list order found.0 moved found.1), found.2);
    }

-- an entry was taken off the end of the list
pub taken_order : (order order' list : List (Reverse KeyEntry)) (r : Option (Reverse KeyEntry)) → order ≡ order' ++ option_to_list r
    → IfSome r (λ e. IsPermutation (order ++ list) (e ∷ (order' ++ list)))
taken_order order order' list None is = tt
taken_order order order' list (Some e) is = rw (is, append_assoc) (IsPermutation-middle order' e list)

-- or out of the heap
pub taken_heap : (order list list' : List (Reverse KeyEntry)) (r : Option (Reverse KeyEntry)) → IfSome r (λ e. IsPermutation list (e ∷ list'))
    → IfSome r (λ e. IsPermutation (order ++ list) (e ∷ (order ++ list')))
taken_heap order list list' None taken = tt
taken_heap order list list' (Some e) taken =
    IsPermutation-trans (order ++ list) (order ++ e ∷ list') (e ∷ (order ++ list')) (IsPermutation-append_right order list (e ∷ list') taken)
    (IsPermutation-middle order e list')

-- whether one entry that is lent, if there is one, is less than another
abbrev pub is_less : Option (Bor (Reverse KeyEntry)) → Option (Bor (Reverse KeyEntry)) → Bool
is_less = partial_lt (option_partial_cmp (λ (a b : Bor (Reverse KeyEntry)).
    partial_ordering_then (Some (int_cmp b.now.0.key a.now.0.key)) (Some (nat_cmp b.now.0.item a.now.0.item))))

-- where the last of a sorted list is less than the top of a heap, the top precedes the rest
pub top_first : (order list list' : List (Reverse KeyEntry)) (last top : Option (Bor (Reverse KeyEntry))) (r : Option (Reverse KeyEntry)) → IsSorted by_key order
    → IsGetResult order 0 (length order - 1) last → IsItemAt list 0 top → is_less last top ≡ true
    → IfSome r (λ e. e ≡ get_or list 0 e) → IfSome r (λ e. IsUpperBound by_key e list') → IfSome r (λ e. All (Precedes e) (order ++ list'))
top_first order list list' last top None sorted at_last at_top less is bound = tt
top_first order list list' None top (Some e) sorted at_last at_top less is bound =
    All-append (Precedes e) order list' (λ k d l. let none = at_last.3 in absurd (omega (arith, none, l))) (first_of_heap e list' bound)
top_first order list list' (Some a) None (Some e) sorted at_last at_top less is bound = absurd (true≢false (sym less))
top_first order list list' (Some a) (Some b) (Some e) sorted at_last at_top less is bound =
    let same : b.now ≡ e = at_top.3.1 e ∙ sym is in
    let first : Precedes e a.now = subst (λ z. Precedes z a.now) same (comes_last a.now.0.key b.now.0.key a.now.0.item b.now.0.item (rw Some-then at less)) in
    All-append (Precedes e) order list'
    (All-weaker (Precedes a.now) (Precedes e) (λ f. precedes_join e a.now f first) order (last_of_order order sorted a.now a.now (at_last.3.1 a.now)))
    (first_of_heap e list' bound)

-- where it isn't, the last precedes the rest
pub last_first : (order order' list : List (Reverse KeyEntry)) (last top : Option (Bor (Reverse KeyEntry))) (r : Option (Reverse KeyEntry)) → IsSorted by_key order
    → IsGetResult order 0 (length order - 1) last → IsItemAt list 0 top → is_less last top ≡ false
    → IfSome top (λ b. IsUpperBound by_key b.now list) → order ≡ order' ++ option_to_list r → IfSome r (λ e. All (Precedes e) (order' ++ list))
last_first order order' list last top None sorted at_last at_top less bound is = tt
last_first order order' list None top (Some e) sorted at_last at_top less bound is =
    let none = at_last.3 in let size = ap length is ∙ length_push order' e in absurd (omega (arith, none, size))
last_first order order' list (Some a) top (Some e) sorted at_last at_top less bound is =
    let size : length order ≡ length order' + 1 = ap length is ∙ length_push order' e in
    let at : e ≡ get_or order (length order - 1) e = sym (ap (λ xs. get_or xs (length order - 1) e) is ∙ get_or_push order' e e (length order - 1) (omega (arith, size))) in
    let same : a.now ≡ e = at_last.3.1 e ∙ sym at in
    All-append (Precedes e) order' list (All-pop (Precedes e) order order' (Some e) is (last_of_order order sorted e e at)).0 (behind top at_top less bound same)
  where
    behind : (t : Option (Bor (Reverse KeyEntry))) → IsItemAt list 0 t → is_less (Some a) t ≡ false
        → IfSome t (λ b. IsUpperBound by_key b.now list) → a.now ≡ e → All (Precedes e) list
    behind None at_top less bound same = λ k d l. let none = at_top.3 in absurd (omega (arith, none, l))
    behind (Some b) at_top less bound same =
        let first : Precedes e b.now = subst (λ z. Precedes z b.now) same (comes_first a.now.0.key b.now.0.key a.now.0.item b.now.0.item (rw Some-then at less)) in
        All-weaker (Precedes b.now) (Precedes e) (λ f. precedes_join e b.now f first) list (first_of_heap b.now list bound)
