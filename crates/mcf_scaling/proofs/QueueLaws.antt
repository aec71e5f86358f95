-- What a queue keeps when a node is put into it, or taken off.
use Rattle.std.proofs.Common.{◌≡◌, ◌≢◌, ℕ, suc, cond, eqb, Option, Some, None, ◌+◌, ◌-◌, ◌<◌, ◌≤◌, Bool, true, false, List, [], ◌∷◌, ◌++◌, length, get_or, set}
use Rattle.std.proofs.Common.{refl, sym, ap, ◌∙◌, arith, inl, inr, length-set, subst}
use Rattle.std.specs.List.{All, Contains}
use Rattle.std.proofs.lemmas.Bool.{true≢false, cases_eq, ne_eqb}
use Rattle.std.proofs.lemmas.List.{length_push}
use Rattle.std.proofs.lemmas.List.Elements.{All-head, All-push, Contains-append_left, Contains-push}
use Rattle.std.proofs.lemmas.List.Quantifiers.{all_pairs_push}
use Rattle.std.proofs.lemmas.List.Sums.{sum_by-set}
use Rattle.mcf_flows.specs.Blocking.{in_table}
use Rattle.mcf_flows.specs.Network.{Network, IsArcNumber, IsNode, node_count, when}
use Rattle.mcf_network.proofs.Lists.{Contains-cons}
use Rattle.mcf_network.proofs.Marks.{counted_new, count_none, count_small, unmarked, marked_new, marked_still, read_node}
use Rattle.std.specs.Prelude.{◌<ℤ◌, ℤ, pos, ◌≤ℤ◌}
use Rattle.std.proofs.lemmas.Int.{ints}
use Rattle.std.specs.Int.{int_min}
use Rattle.std.proofs.lemmas.List.{length-replicate}
use Rattle.mcf_flows.specs.Limits.{node_limit}
use Rattle.mcf_network.specs.declared.rid.Rid.{Rid}
use Rattle.mcf_network.specs.Residual.{head, tail}
use Rattle.mcf_network.specs.States.{Pseudoflow, IsPseudoflow, HasNoSurplus, pushed, room_of, surplus_at}
use Rattle.mcf_network.proofs.StateLaws.{pushed_surplus, rid}
use Rattle.mcf_scaling.specs.Optimality.{IsAdmissible}
use Rattle.mcf_scaling.specs.Refinements.{Refinement, IsActive}
use Rattle.mcf_scaling.proofs.RunLaws.{share}
use Rattle.std.specs.Option.{IfNone, IfSome}
use Rattle.mcf_scaling.specs.Private.Queues.{HoldsActive, IsPopped, IsQueueOf, Waiting, IsQueue, queued, no_queue}

-- there is room for a node that doesn't wait
pub queue_room : (q : Waiting) (v : ℕ) → IsQueue q → IsNode (length q.table) v → in_table q.table v ≡ false → length q.nodes < length q.table
queue_room q v ok h e =
    let more = counted_new q.table v h e in
    let few = count_small (set q.table (v - 1) true) in
    omega (arith, ok.count, more, few, length-set q.table (v - 1) true)

pub queue_push : (q : Waiting) (v : ℕ) → IsQueue q → IsNode (length q.table) v → in_table q.table v ≡ false
    → IsQueue (record { table = set q.table (v - 1) true; nodes = q.nodes ++ v ∷ [] })
queue_push q v ok h e =
    let same = length-set q.table (v - 1) true in
    record {
      limit = omega (arith, ok.limit, same);
      are_nodes = All-push (IsNode (length (set q.table (v - 1) true))) q.nodes v
          (λ k d l. let old = ok.are_nodes k d l in (old.0, omega (arith, old, same))) (h.0, omega (arith, h, same));
      count = omega (arith, ok.count, length_push q.nodes v, counted_new q.table v h e);
      once = all_pairs_push (λ u w. u ≢ w) q.nodes v ok.once (λ k d l is. true≢false (sym (ok.waits k d l) ∙ ap (in_table q.table) is ∙ e));
      marked = λ w k m. elim (read_node q.table v w true false h k.0) [
        | inl (s, _) ↦ subst (λ x. Contains (q.nodes ++ v ∷ []) x) (sym s) (Contains-push q.nodes v)
        | inr (n, old) ↦ Contains-append_left q.nodes (v ∷ []) w (ok.marked w (k.0, omega (arith, k, same)) (sym old ∙ m))
      ];
      waits = All-push (λ w. in_table (set q.table (v - 1) true) w ≡ true) q.nodes v
          (λ k d l. marked_still q.table v (get_or q.nodes k d) h (ok.waits k d l)) (marked_new q.table v h);
    }

pub queue_pop : (table : List Bool) (v : ℕ) (rest : List ℕ) → IsQueue (record { table = table; nodes = v ∷ rest })
    → IsQueue (record { table = set table (v - 1) false; nodes = rest })
queue_pop table v rest ok =
    let same = length-set table (v - 1) false in
    let h = All-head (IsNode (length table)) v rest ok.are_nodes in
    let here = All-head (λ w. in_table table w ≡ true) v rest ok.waits in
    let others = λ (k : ℕ) (d : ℕ) (l : k < length rest). ok.once 0 (suc k) d (omega arith) (omega arith) in
    record {
      limit = omega (arith, ok.limit, same);
      are_nodes = λ k d l. let old = ok.are_nodes (suc k) d (omega arith) in (old.0, omega (arith, old, same));
      count = omega (arith, ok.count, sum_by-set (λ b. cond b 1 0) table (v - 1) false false (omega arith), ap {B = ℕ} (λ b. cond b 1 0) here);
      once = λ i j d p l. ok.once (suc i) (suc j) d (omega arith) (omega arith);
      marked = λ w k m. elim (read_node table v w false false h k.0) [
        | inl (s, now) ↦ absurd (true≢false (sym m ∙ now))
        | inr (n, old) ↦ elim (Contains-cons v rest w (ok.marked w (k.0, omega (arith, k, same)) (sym old ∙ m))) [
          | inl is ↦ absurd (n (sym is))
          | inr later ↦ later
        ]
      ];
      waits = λ k d l. elim (read_node table v (get_or rest k d) false false h (ok.are_nodes (suc k) d (omega arith)).0) [
        | inl (s, now) ↦ absurd (others k d l (sym s))
        | inr (n, old) ↦ old ∙ ok.waits (suc k) d (omega arith)
      ];
    }

-- the first of a list that isn't empty
pub first_waits : (q s : Waiting) (x : ℕ) → q ≡ s → 0 < length q.nodes → x ≡ get_or q.nodes 0 x → (rest : List ℕ) × (s.nodes ≡ x ∷ rest)
first_waits q s x same some e =
    subst (λ (z : Waiting). (rest : List ℕ) × (z.nodes ≡ x ∷ rest)) same (go q.nodes x some e)
  where
    go : (xs : List ℕ) (x : ℕ) → 0 < length xs → x ≡ get_or xs 0 x → (rest : List ℕ) × (xs ≡ x ∷ rest)
    go [] x some e = absurd (omega (arith, some))
    go (y ∷ ys) x some e = (ys, ap (λ (z : ℕ). z ∷ ys) (sym e))

pub popped : (q : Waiting) (v : ℕ) (rest : List ℕ) → IsQueue q → q.nodes ≡ v ∷ rest → IsQueue (record { table = set q.table (v - 1) false; nodes = rest })
popped q v rest ok e =
    queue_pop q.table v rest (subst (λ (xs : List ℕ). IsQueue (record { table = q.table; nodes = xs })) e ok)

-- ---- the queue of a state

-- the first has no surplus and is taken off
pub tidied : (s : Pseudoflow) (q r : Waiting) (v : ℕ) (rest : List ℕ) → HoldsActive s q → q.nodes ≡ v ∷ rest → r.nodes ≡ rest → IsQueue r
    → length r.table ≡ length q.table → surplus_at s v ≤ℤ pos 0 → HoldsActive s r
tidied s q r v rest ok e after queue size low =
    record {
      queue = queue;
      size = size ∙ ok.size;
      every = λ u h more. elim (Contains-cons v rest u (subst (λ (xs : List ℕ). Contains xs u) e (ok.every u h more))) [
        | inl same ↦ absurd (let is = ap (surplus_at s) same in omega (arith, ints, is, more, low))
        | inr later ↦ subst (λ (xs : List ℕ). Contains xs u) (sym after) later
      ];
    }

pub queued_keeps : (q : Waiting) (v : ℕ) (b : Bool) → in_table q.table v ≡ b → IsQueue q → IsNode (length q.table) v
    → ((u : ℕ) → Contains q.nodes u → Contains (queued q v).nodes u) × Contains (queued q v).nodes v × (length (queued q v).table ≡ length q.table)
queued_keeps q v true e ok h =
    rw e ((λ u k. k), ok.marked v h e, refl)
queued_keeps q v false e ok h =
    rw e ((λ u k. Contains-append_left q.nodes (v ∷ []) u k), Contains-push q.nodes v, length-set q.table (v - 1) true)

pub tidy_next : (s : Pseudoflow) (q r : Waiting) (o : Option ℕ) (v : ℕ) (rest : List ℕ) → HoldsActive s q → q.nodes ≡ v ∷ rest
    → IfSome o (IsPopped q r) → IfNone o (q.nodes ≡ []) → IsQueue r → surplus_at s v ≤ℤ pos 0 → HoldsActive s r × (length r.nodes < length q.nodes)
tidy_next s q r None v rest ok e some none queue low =
    absurd (let a = ap (λ (xs : List ℕ). length xs) (sym e ∙ none) in omega (arith, a))
tidy_next s q r (Some x) v rest ok e some none queue low =
    let same : x ≡ v = ap (λ (xs : List ℕ). get_or xs 0 x) (sym some.nodes ∙ e) in
    let nodes = some.nodes ∙ ap (λ (y : ℕ). y ∷ r.nodes) same in
    let size = ap (λ (xs : List Bool). length xs) some.table ∙ length-set q.table (x - 1) false in
    let count = ap (λ (xs : List ℕ). length xs) nodes in
    (tidied s q r v r.nodes ok nodes refl queue size low, omega (arith, count))

-- one node more was put in where it has a surplus
pub queued_all : (s : Pseudoflow) (q r : Waiting) (n v : ℕ) → v ≡ n + 1 → ((u : ℕ) → IsNode n u → pos 0 <ℤ surplus_at s u → Contains q.nodes u)
    → ((u : ℕ) → Contains q.nodes u → Contains r.nodes u) → (pos 0 <ℤ surplus_at s v → Contains r.nodes v) → (u : ℕ) → IsNode (n + 1) u
    → pos 0 <ℤ surplus_at s u → Contains r.nodes u
queued_all s q r n v is before kept here u h more =
    elim (cases_eq u v) [
      | inl e ↦ subst (λ (x : ℕ). Contains r.nodes x) (sym e) (here (subst (λ (x : ℕ). pos 0 <ℤ surplus_at s x) e more))
      | inr other ↦ kept u (before u (h.0, omega (arith, h, other, is)) more)
    ]

-- ---- the queue of a refinement

pub no_queue_ok : (n : ℕ) → n ≤ node_limit → IsQueue (no_queue n)
no_queue_ok n h =
    record {
      limit = omega (arith, h, length-replicate n false);
      are_nodes = λ k d l. absurd (omega arith);
      count = sym (count_none n);
      once = λ i j d p l. absurd (omega arith);
      marked = λ v k e. absurd (true≢false (sym e ∙ unmarked n v));
      waits = λ k d l. absurd (omega arith);
    }

pub start_queue : (s : Pseudoflow) (q : Waiting) → IsPseudoflow s → HasNoSurplus s → q ≡ no_queue (node_count s.net) → IsQueueOf s q
start_queue s q ok none is =
    subst (λ (x : Waiting). IsQueueOf s x) (sym is) (record {
      holds = record {
        queue = no_queue_ok (node_count s.net) ok.of_net.nodes;
        size = length-replicate (node_count s.net) false;
        every = λ v h more. absurd (let zero = none v h in omega (arith, ints, zero, more));
      };
      front = λ v rest eq. absurd (let a = ap (λ (xs : List ℕ). length xs) eq in omega (arith, a));
    })

-- the first of the queue is active
pub front_active : (a b : Refinement) (q : Waiting) (o : Option ℕ) → a ≡ b → IsQueueOf a.flow q
    → IfSome o (λ v. (rest : List ℕ) × (q.nodes ≡ v ∷ rest)) → IfSome o (IsActive b)
front_active a b q None same ok some = tt
front_active a b q (Some v) same ok some =
    let (rest, e) = some in
    let node = All-head (IsNode (length q.table)) v rest (subst (λ (xs : List ℕ). All (IsNode (length q.table)) xs) e ok.holds.queue.are_nodes) in
    subst (λ (z : Refinement). IsActive z v) same (record { node = (node.0, omega (arith, node, ok.holds.size)); surplus = ok.front v rest e })

-- after a push only its head may be active anew
pub push_holds : (s t : Pseudoflow) (q r : Waiting) (k : ℕ) (b : Bool) (x : ℤ) (to : ℕ) → IsPseudoflow s → IsArcNumber s.net k → pos 0 ≤ℤ x
    → t ≡ pushed s (rid k b) x → to ≡ head s.net (rid k b) → IsQueueOf s q → ((u : ℕ) → Contains q.nodes u → Contains r.nodes u)
    → (pos 0 <ℤ surplus_at t to → Contains r.nodes to) → length r.table ≡ length q.table → IsQueue r → HoldsActive t r
push_holds s t q r k b x to ok h low is end was kept here size still =
    let net = ap (λ (y : Pseudoflow). y.net) is in
    record {
      queue = still;
      size = size ∙ was.holds.size ∙ ap (λ (g : Network). node_count g) (sym net);
      every = λ u n more. elim (cases_eq u to) [
        | inl e ↦ subst (λ (y : ℕ). Contains r.nodes y) (sym e) (here (subst (λ (y : ℕ). pos 0 <ℤ surplus_at t y) e more))
        | inr other ↦ kept u (was.holds.every u (subst (λ (g : Network). IsNode (node_count g) u) net n)
            (before u other (subst (λ (y : Pseudoflow). pos 0 <ℤ surplus_at y u) is more)))
      ];
    }
  where
    gain : (c : Bool) → pos 0 ≤ℤ when c x
    gain true = low
    gain false = omega (arith, ints)

    before : (u : ℕ) → u ≢ to → pos 0 <ℤ surplus_at (pushed s (rid k b) x) u → pos 0 <ℤ surplus_at s u
    before u other more =
        let moved = pushed_surplus s k b x ok h u in
        let apart = ap (λ c. when c x) (ne_eqb (head s.net (rid k b)) u (λ e. other (sym (end ∙ e)))) in
        let lost = gain (eqb (tail s.net (rid k b)) u) in
        omega (arith, ints, moved, apart, lost, more)

pub share_low : (a b : Refinement) (r : Rid) (x : ℤ) → a ≡ b → IsAdmissible b.flow b.prices r → IsActive b (tail b.flow.net r)
    → x ≡ int_min (surplus_at a.flow (tail a.flow.net r)) (room_of a.flow r) → pos 0 ≤ℤ x
share_low a b r x same admissible active amount =
    let here = subst (λ (z : Refinement). IsAdmissible z.flow z.prices r) (sym same) admissible in
    let some = subst (λ (z : Refinement). IsActive z (tail z.flow.net r)) (sym same) active in
    let part = share (surplus_at a.flow (tail a.flow.net r)) (room_of a.flow r) some.surplus here.room.room in
    let low = part.low in
    omega (arith, ints, low, amount)

pub arc_of : (a b : Refinement) (r : Rid) → a ≡ b → IsAdmissible b.flow b.prices r → IsArcNumber a.flow.net r.arc
arc_of a b r same admissible =
    (subst (λ (z : Refinement). IsAdmissible z.flow z.prices r) (sym same) admissible).room.arc
