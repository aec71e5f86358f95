-- What the steps of a search for a distance keep, and what it ends with.
use Rattle.std.proofs.Common.{◌≡◌, ◌≢◌, ℕ, ◌+◌, ◌-◌, ◌*◌, ◌≤◌, Bool, true, false, if◌then◌else◌, List, [], ◌∷◌, ◌++◌, length, get_or, refl, ap, sym, ◌∙◌, subst, arith, ℤ, pos, ◌+ℤ◌, ◌≤ℤ◌, ◌<ℤ◌, ◌⊎◌, Some, None, inl, inr, length-set}
use Rattle.std.specs.Int.{int_min}
use Rattle.std.specs.List.{All, Contains}
use Rattle.std.proofs.lemmas.Bool.{true≢false}
use Rattle.std.proofs.lemmas.Int.{clamps, ints}
use Rattle.std.proofs.lemmas.List.{get_or-replicate, get_or-set_other, length-replicate}
use Rattle.std.proofs.lemmas.List.Elements.{All-push, All-weaker}
use Rattle.std.proofs.lemmas.List.Quantifiers.{all_pairs_push}
use Rattle.mcf_flows.specs.Blocking.{in_table}
use Rattle.mcf_flows.specs.Limits.{node_limit}
use Rattle.mcf_flows.specs.Network.{Network, IsArcNumber, IsNode, at_node, node_count}
use Rattle.mcf_flows.specs.WellFormed.{HasEnds, IsUpTo}
use Rattle.mcf_network.specs.declared.rid.Rid.{Rid}
use Rattle.mcf_network.specs.NodeSets.{member_count, no_nodes, with_node}
use Rattle.mcf_network.specs.Residual.{no_arc, arc_at, head, tail, unit_cost}
use Rattle.mcf_network.specs.Walks.{IsWalk, walk_cost}
use Rattle.mcf_network.proofs.Lists.{Contains-cons}
use Rattle.mcf_network.proofs.Marks.{count_none, count_small, counted_new, marked_new, marked_only, marked_still, read_node, unmarked}
use Rattle.mcf_engine.specs.Heaps.{ComesFirst, IsFirst, Keyed, NoneWaits, Waits, no_keys, waiting_with, without}
use Rattle.mcf_ranges.specs.Private.Distances.{HasPotential, IsDistance, IsOpen, length_of}
use Rattle.mcf_ranges.specs.Private.Searches.{HasPath, IsLast, IsReached, IsRelaxed, IsSearch, IsSettled, IsStep, Task, distance_limit, length_limit}

-- ---- walks

walk_push : (g : Network) (walk : List Rid) (u : ℕ) (r : Rid) → IsWalk g u walk (tail g r) → IsWalk g u (walk ++ r ∷ []) (head g r)
walk_push g [] u r goes = (sym goes, refl)
walk_push g (q ∷ rest) u r goes = (goes.0, walk_push g rest (head g q) r goes.1)

cost_push : (g : Network) (walk : List Rid) (r : Rid) → walk_cost g (walk ++ r ∷ []) ≡ walk_cost g walk +ℤ unit_cost g r
cost_push g [] r = omega (arith, ints)
cost_push g (q ∷ rest) r = omega (arith, ints, cost_push g rest r)

none_contained : (r : Rid) → Contains [] r → ⊥
none_contained r has = (let l = has.1 in omega (arith, l))

comes_first_low : (x y : ℤ) (a b : ℕ) → ComesFirst x a y b → x ≤ℤ y
comes_first_low x y a b (inl h) = omega (arith, ints, h)
comes_first_low x y a b (inr h) = (let e = h.0 in omega (arith, ints, e))

-- ---- marks

waits_not : (b : Bool) → b ≡ true → b ≡ false → ⊥
waits_not b t f = true≢false (sym t ∙ f)

unmarked_still : (table : List Bool) (v w : ℕ) → IsNode (length table) v → IsNode (length table) w → w ≢ v → in_table (with_node table v) w ≡ in_table table w
unmarked_still table v w hv hw n = let other : (w - 1) ≢ (v - 1) = omega arith in get_or-set_other table (v - 1) (w - 1) true false other

not_marked : (b : Bool) → (b ≡ true → ⊥) → b ≡ false
not_marked false n = refl
not_marked true n = absurd (n refl)

-- what is known of the task
pub record IsTask (t : Task) : Type 0 where
  pub ends : All (HasEnds (node_count t.network)) t.network.arcs
  pub few : node_count t.network ≤ node_limit
  pub from_is_node : IsNode (node_count t.network) t.u
  pub to_is_node : IsNode (node_count t.network) t.w
  pub low : (r : Rid) → IsOpen t.network t.flow t.k r → pos 0 ≤ℤ length_of t.network t.prices r
  pub small : (r : Rid) → IsOpen t.network t.flow t.k r → length_of t.network t.prices r ≤ℤ pos length_limit

-- a list has the open arcs that leave a node
abbrev pub HasLeaving : Task → ℕ → List Rid → Type 0
HasLeaving t v rest = (r : Rid) → IsOpen t.network t.flow t.k r → tail t.network r ≡ v → Contains rest r

module _ (t : Task) (task : IsTask t) where
  ends_at : (j : ℕ) → IsArcNumber t.network j → HasEnds (node_count t.network) (arc_at t.network j)
  ends_at j h = task.ends (j - 1) no_arc (omega arith)

  tail_node : (j : ℕ) (b : Bool) → IsArcNumber t.network j → IsNode (node_count t.network) (tail t.network (record { arc = j; back = b }))
  tail_node j true h = (ends_at j h).dst_is_node
  tail_node j false h = (ends_at j h).src_is_node

  head_node : (j : ℕ) (b : Bool) → IsArcNumber t.network j → IsNode (node_count t.network) (head t.network (record { arc = j; back = b }))
  head_node j true h = (ends_at j h).src_is_node
  head_node j false h = (ends_at j h).dst_is_node

  pub tail_is_node : (r : Rid) → IsArcNumber t.network r.arc → IsNode (node_count t.network) (tail t.network r)
  tail_is_node r h = tail_node r.arc r.back h

  pub head_is_node : (r : Rid) → IsArcNumber t.network r.arc → IsNode (node_count t.network) (head t.network r)
  head_is_node r h = head_node r.arc r.back h

  -- ---- the beginning

  module _ (h : Keyed) (marks : List Bool) (different : t.u ≢ t.w) (heap : h ≡ no_keys (node_count t.network))
      (marks_are : marks ≡ with_node (no_nodes (node_count t.network)) t.u) where
    none_length : length (no_nodes (node_count t.network)) ≡ node_count t.network
    none_length = length-replicate (node_count t.network) false

    source_inside : IsNode (length (no_nodes (node_count t.network))) t.u
    source_inside = let here = task.from_is_node in (here.0, omega (arith, here, none_length))

    key_zero : (v : ℕ) → IsNode (node_count t.network) v → at_node h.keys v ≡ pos 0
    key_zero v i = ap (λ (x : Keyed). at_node x.keys v) heap ∙ get_or-replicate (node_count t.network) (v - 1) (pos 0) (pos 0) (omega arith)

    none_waits : (v : ℕ) → in_table h.waiting v ≡ false
    none_waits v = ap (λ (x : Keyed). in_table x.waiting v) heap ∙ unmarked (node_count t.network) v

    source_settled : IsSettled marks t.u
    source_settled = ap (λ table. in_table table t.u) marks_are ∙ marked_new (no_nodes (node_count t.network)) t.u source_inside

    -- the source alone is settled
    source_only : (v : ℕ) → IsNode (node_count t.network) v → IsSettled marks v → v ≡ t.u
    source_only v i e =
        let inside : IsNode (length (no_nodes (node_count t.network))) v = (i.0, omega (arith, i, none_length)) in
        elim (marked_only (no_nodes (node_count t.network)) t.u v source_inside inside (ap (λ table. in_table table v) (sym marks_are) ∙ e)) [
          | inl same ↦ same
          | inr was ↦ absurd (waits_not (in_table (no_nodes (node_count t.network)) v) was (unmarked (node_count t.network) v))
        ]

    source_reached : (v : ℕ) → IsNode (node_count t.network) v → IsReached h marks v → v ≡ t.u
    source_reached v i (inl e) = source_only v i e
    source_reached v i (inr e) = absurd (waits_not (in_table h.waiting v) e (none_waits v))

    one_settled : member_count marks ≡ 1
    one_settled =
        let more = counted_new (no_nodes (node_count t.network)) t.u source_inside (unmarked (node_count t.network) t.u) in
        ap member_count marks_are ∙ more ∙ ap (λ i. i + 1) (count_none (node_count t.network)) ∙ omega arith

    source_path : HasPath t h marks t.u
    source_path =
        let zero = key_zero t.u task.from_is_node in
        record {
          walk = [];
          path = record {
            goes = refl;
            open_arcs = λ i d l. absurd (omega arith);
            once = λ i j d l m. absurd (omega arith);
            away = λ i d l. absurd (omega arith);
            length_is = omega (arith, ints, zero);
          };
          settled = λ i d l. absurd (omega arith);
        }

    pub started : (rest : List Rid) → HasLeaving t t.u rest → IsSearch t h marks rest
    started rest has =
        record {
          key_count = ap (λ (x : Keyed). length x.keys) heap ∙ length-replicate (node_count t.network) (pos 0);
          waiting_count = ap (λ (x : Keyed). length x.waiting) heap ∙ none_length;
          mark_count = ap length marks_are ∙ length-set (no_nodes (node_count t.network)) (t.u - 1) true ∙ none_length;
          source = source_settled;
          source_key = key_zero t.u task.from_is_node;
          target = not_marked (in_table marks t.w) (λ e. different (sym (source_only t.w task.to_is_node e)));
          apart = λ v i e. none_waits v;
          paths = λ v i e. subst (λ x. HasPath t h marks x) (sym (source_reached v i e)) source_path;
          low = λ v i e. let zero = key_zero v i in omega (arith, ints, zero);
          small = λ v i e. let zero = key_zero v i in omega (arith, ints, zero);
          smaller = λ v i e. let zero = key_zero v i in let one = one_settled in let product = ap (λ m. length_limit * m) one in omega (arith, ints, zero, product);
          level = λ v a i j e w. absurd (waits_not (in_table h.waiting a) w (none_waits a));
          relaxed = λ r o e. inr (has r o (source_only (tail t.network r) (tail_is_node r o.arc) e));
        }

    pub started_last : IsLast t h marks t.u
    started_last =
        record {
          is_node = task.from_is_node;
          settled = source_settled;
          last = λ a i e. let x = key_zero a i in let y = key_zero t.u task.from_is_node in omega (arith, ints, x, y);
        }

  -- ---- the node that comes first is settled

  module _ (h : Keyed) (marks : List Bool) (v : ℕ) (search : IsSearch t h marks []) (first : IsFirst h v) (different : v ≢ t.w) where
    pub first_node : IsNode (node_count t.network) v
    first_node = let i = first.is_node in (i.0, omega (arith, i, search.waiting_count))

    pub first_marked : IsNode (length marks) v
    first_marked = let i = first_node in (i.0, omega (arith, i, search.mark_count))

    first_unsettled : in_table marks v ≡ false
    first_unsettled = not_marked (in_table marks v) (λ e. waits_not (in_table h.waiting v) first.waits (search.apart v first_node e))

    pub one_more : member_count (with_node marks v) ≡ member_count marks + 1
    one_more = counted_new marks v first_marked first_unsettled

    settled_before : (a : ℕ) → IsNode (node_count t.network) a → IsSettled (with_node marks v) a → (a ≡ v) ⊎ IsSettled marks a
    settled_before a i e = marked_only marks v a first_marked (i.0, omega (arith, i, search.mark_count)) e

    read_waiting : (a : ℕ) → IsNode (node_count t.network) a
        → ((a ≡ v) × (in_table (without h v).waiting a ≡ false)) ⊎ ((a ≢ v) × (in_table (without h v).waiting a ≡ in_table h.waiting a))
    read_waiting a i = read_node h.waiting v a false false first.is_node i.0

    waited_before : (a : ℕ) → IsNode (node_count t.network) a → Waits (without h v) a → Waits h a
    waited_before a i e =
        elim (read_waiting a i) [
          | inl (_, gone) ↦ absurd (waits_not (in_table (without h v).waiting a) e gone)
          | inr (_, same) ↦ sym same ∙ e
        ]

    reached_before : (a : ℕ) → IsNode (node_count t.network) a → IsReached (without h v) (with_node marks v) a → IsReached h marks a
    reached_before a i (inl e) =
        elim (settled_before a i e) [ inl same ↦ inr (subst (λ x. Waits h x) (sym same) first.waits) | inr was ↦ inl was ]
    reached_before a i (inr e) = inr (waited_before a i e)

    reached_after : (a : ℕ) → IsNode (node_count t.network) a → IsReached h marks a → IsReached (without h v) (with_node marks v) a
    reached_after a i (inl e) = inl (marked_still marks v a first_marked e)
    reached_after a i (inr e) =
        elim (read_waiting a i) [
          | inl (same, _) ↦ inl (subst (λ x. IsSettled (with_node marks v) x) (sym same) (marked_new marks v first_marked))
          | inr (_, same) ↦ inr (same ∙ e)
        ]

    path_after : (a : ℕ) → HasPath t h marks a → HasPath t (without h v) (with_node marks v) a
    path_after a p =
        record {
          walk = p.walk;
          path = p.path;
          settled = All-weaker (λ (r : Rid). IsSettled marks (tail t.network r)) (λ (r : Rid). IsSettled (with_node marks v) (tail t.network r))
              (λ r e. marked_still marks v (tail t.network r) first_marked e) p.walk p.settled;
        }

    first_before : (a : ℕ) → IsNode (node_count t.network) a → Waits h a → at_node h.keys v ≤ℤ at_node h.keys a
    first_before a i e = comes_first_low _ _ _ _ (first.precedes a (i.0, omega (arith, i, search.waiting_count)) e)

    more_room : length_limit * member_count (with_node marks v) ≡ length_limit * member_count marks + length_limit
    more_room = ap (λ m. length_limit * m) one_more ∙ omega arith

    pub settled_next : (rest : List Rid) → HasLeaving t v rest → IsSearch t (without h v) (with_node marks v) rest
    settled_next rest has =
        record {
          key_count = search.key_count;
          waiting_count = length-set h.waiting (v - 1) false ∙ search.waiting_count;
          mark_count = length-set marks (v - 1) true ∙ search.mark_count;
          source = marked_still marks v t.u first_marked search.source;
          source_key = search.source_key;
          target = unmarked_still marks v t.w first_marked (let i = task.to_is_node in (i.0, omega (arith, i, search.mark_count))) (λ e. different (sym e))
              ∙ search.target;
          apart = λ a i e. elim (read_waiting a i) [
            | inl (_, gone) ↦ gone
            | inr (n, same) ↦ elim (settled_before a i e) [ inl is ↦ absurd (n is) | inr was ↦ same ∙ search.apart a i was ]
          ];
          paths = λ a i e. path_after a (search.paths a i (reached_before a i e));
          low = λ a i e. search.low a i (reached_before a i e);
          small = λ a i e. let le = search.small a i (reached_before a i e) in let room = more_room in omega (arith, ints, le, room);
          smaller = λ a i e. let room = more_room in elim (settled_before a i e) [
            | inl is ↦ (let le = search.small a i (inr (subst (λ x. Waits h x) (sym is) first.waits)) in omega (arith, ints, le, room))
            | inr was ↦ (let le = search.smaller a i was in omega (arith, ints, le, room))
          ];
          level = λ a b i j e w. let waited = waited_before b j w in elim (settled_before a i e) [
            | inl is ↦ (let le = first_before b j waited in let same = ap (at_node h.keys) is in omega (arith, ints, le, same))
            | inr was ↦ search.level a b i j was waited
          ];
          relaxed = λ r o e. elim (settled_before (tail t.network r) (tail_is_node r o.arc) e) [
            | inl is ↦ inr (has r o is)
            | inr was ↦ elim (search.relaxed r o was) [
              | inl done ↦ inl (record { reached = reached_after (head t.network r) (head_is_node r o.arc) done.reached; key = done.key })
              | inr none ↦ absurd (none_contained r none)
            ]
          ];
        }

    pub settled_last : IsLast t (without h v) (with_node marks v) v
    settled_last =
        record {
          is_node = first_node;
          settled = marked_new marks v first_marked;
          last = λ a i e. elim (settled_before a i e) [
            | inl is ↦ (let same = ap (at_node h.keys) is in omega (arith, ints, same))
            | inr was ↦ search.level a v i first_node was first.waits
          ];
        }

  -- ---- a residual arc is relaxed

  -- nothing changes, since the arc is relaxed, if it is open
  pub passed : (h : Keyed) (marks : List Bool) (r : Rid) → ((rest : List Rid) → IsSearch t h marks (r ∷ rest) → IsOpen t.network t.flow t.k r → IsRelaxed t h marks r)
      → IsStep t h h marks r
  passed h marks r done =
      record {
        search = λ rest search. record {
          key_count = search.key_count;
          waiting_count = search.waiting_count;
          mark_count = search.mark_count;
          source = search.source;
          source_key = search.source_key;
          target = search.target;
          apart = search.apart;
          paths = search.paths;
          low = search.low;
          small = search.small;
          smaller = search.smaller;
          level = search.level;
          relaxed = λ q o e. elim (search.relaxed q o e) [
            | inl is ↦ inl is
            | inr has ↦ elim (Contains-cons r rest q has) [
              | inl same ↦ inl (subst (λ x. IsRelaxed t h marks x) same (done rest search (subst (λ x. IsOpen t.network t.flow t.k x) (sym same) o)))
              | inr more ↦ inr more
            ]
          ];
        };
        keeps = λ v i e. refl;
      }

  -- the head is settled
  pub relaxed_settled : (h : Keyed) (marks : List Bool) (r : Rid) → IsLast t h marks (tail t.network r) → IsArcNumber t.network r.arc
      → IsSettled marks (head t.network r) → IsOpen t.network t.flow t.k r → IsRelaxed t h marks r
  relaxed_settled h marks r last arc e = λ o.
      let low = task.low r o in
      let le = last.last (head t.network r) (head_is_node r arc) e in
      record { reached = inl e; key = omega (arith, ints, low, le) }

  -- the head waits with a key that is no greater
  pub relaxed_waiting : (h : Keyed) (marks : List Bool) (r : Rid) (key : ℤ) → key ≡ at_node h.keys (tail t.network r) +ℤ length_of t.network t.prices r
      → Waits h (head t.network r) → at_node h.keys (head t.network r) ≤ℤ key → IsRelaxed t h marks r
  relaxed_waiting h marks r key is waits le = record { reached = inr waits; key = omega (arith, ints, is, le) }

  -- the head waits with a lower key
  module _ (h : Keyed) (marks : List Bool) (r : Rid) (key : ℤ) (last : IsLast t h marks (tail t.network r)) (o : IsOpen t.network t.flow t.k r)
      (unsettled : in_table marks (head t.network r) ≡ false) (key_is : key ≡ at_node h.keys (tail t.network r) +ℤ length_of t.network t.prices r)
      (less : Waits h (head t.network r) → key <ℤ at_node h.keys (head t.network r)) (rest : List Rid) (search : IsSearch t h marks (r ∷ rest)) where
    x_node : IsNode (node_count t.network) (head t.network r)
    x_node = head_is_node r o.arc

    read_key : (a : ℕ) → IsNode (node_count t.network) a → ((a ≡ head t.network r) × (at_node (waiting_with h (head t.network r) key).keys a ≡ key))
        ⊎ ((a ≢ head t.network r) × (at_node (waiting_with h (head t.network r) key).keys a ≡ at_node h.keys a))
    read_key a i = read_node h.keys (head t.network r) a key (pos 0) (let j = x_node in (j.0, omega (arith, j, search.key_count))) i.0

    read_wait : (a : ℕ) → IsNode (node_count t.network) a → ((a ≡ head t.network r) × (in_table (waiting_with h (head t.network r) key).waiting a ≡ true))
        ⊎ ((a ≢ head t.network r) × (in_table (waiting_with h (head t.network r) key).waiting a ≡ in_table h.waiting a))
    read_wait a i = read_node h.waiting (head t.network r) a true false (let j = x_node in (j.0, omega (arith, j, search.waiting_count))) i.0

    -- a settled node is another
    settled_other : (a : ℕ) → IsSettled marks a → a ≢ head t.network r
    settled_other a e same = waits_not (in_table marks (head t.network r)) (subst (λ v. IsSettled marks v) same e) unsettled

    pub key_kept : (a : ℕ) → IsNode (node_count t.network) a → IsSettled marks a → at_node (waiting_with h (head t.network r) key).keys a ≡ at_node h.keys a
    key_kept a i e = elim (read_key a i) [ inl (is, _) ↦ absurd (settled_other a e is) | inr (_, same) ↦ same ]

    -- the new path
    new_path : HasPath t (waiting_with h (head t.network r) key) marks (head t.network r)
    new_path =
        let before = search.paths (tail t.network r) last.is_node (inl last.settled) in
        let p = before.path in
        let long = p.length_is in
        let value : at_node (waiting_with h (head t.network r) key).keys (head t.network r) ≡ key = elim (read_key (head t.network r) x_node) [ inl (_, is) ↦ is | inr (n, _) ↦ absurd (n refl) ] in
        record {
          walk = before.walk ++ r ∷ [];
          path = record {
            goes = walk_push t.network before.walk t.u r p.goes;
            open_arcs = All-push (IsOpen t.network t.flow t.k) before.walk r p.open_arcs o;
            once = all_pairs_push (λ (a b : Rid). tail t.network a ≢ tail t.network b) before.walk r p.once p.away;
            away = All-push (λ (q : Rid). tail t.network q ≢ head t.network r) before.walk r
                (λ i d l. settled_other (tail t.network (get_or before.walk i d)) (before.settled i d l)) (settled_other (tail t.network r) last.settled);
            length_is = omega (arith, ints, value, key_is, long, cost_push t.network before.walk r);
          };
          settled = All-push (λ (q : Rid). IsSettled marks (tail t.network q)) before.walk r before.settled last.settled;
        }

    reached_before_offer : (a : ℕ) → IsNode (node_count t.network) a → IsReached (waiting_with h (head t.network r) key) marks a → (a ≡ head t.network r) ⊎ IsReached h marks a
    reached_before_offer a i (inl e) = inr (inl e)
    reached_before_offer a i (inr e) =
        elim (read_wait a i) [ inl (is, _) ↦ inl is | inr (_, same) ↦ inr (inr (sym same ∙ e)) ]

    reached_still : (a : ℕ) → IsNode (node_count t.network) a → IsReached h marks a → IsReached (waiting_with h (head t.network r) key) marks a
    reached_still a i (inl e) = inl e
    reached_still a i (inr e) =
        elim (read_wait a i) [ inl (_, now) ↦ inr now | inr (_, same) ↦ inr (same ∙ e) ]

    path_still : (a : ℕ) → at_node (waiting_with h (head t.network r) key).keys a ≡ at_node h.keys a → HasPath t h marks a → HasPath t (waiting_with h (head t.network r) key) marks a
    path_still a same p =
        record {
          walk = p.walk;
          path = let q = p.path in let long = q.length_is in record {
            goes = q.goes;
            open_arcs = q.open_arcs;
            once = q.once;
            away = q.away;
            length_is = omega (arith, ints, long, same);
          };
          settled = p.settled;
        }

    -- what holds of each key
    each_key : (P : ℕ → ℤ → Type 0) → P (head t.network r) key → ((a : ℕ) → IsNode (node_count t.network) a → IsReached h marks a → P a (at_node h.keys a))
        → (a : ℕ) → IsNode (node_count t.network) a → IsReached (waiting_with h (head t.network r) key) marks a → P a (at_node (waiting_with h (head t.network r) key).keys a)
    each_key P here there a i e =
        elim (read_key a i) [
          | inl (is, value) ↦ subst (P a) (sym value) (subst (λ v. P v key) (sym is) here)
          | inr (n, same) ↦ elim (reached_before_offer a i e) [
            | inl is ↦ absurd (n is)
            | inr was ↦ subst (P a) (sym same) (there a i was)
          ]
        ]

    key_low : pos 0 ≤ℤ key
    key_low =
        let base = search.low (tail t.network r) last.is_node (inl last.settled) in
        let length = task.low r o in
        omega (arith, ints, base, length, key_is)

    key_small : key ≤ℤ pos (length_limit * member_count marks)
    key_small =
        let base = search.smaller (tail t.network r) last.is_node last.settled in
        let length = task.small r o in
        omega (arith, ints, base, length, key_is)

    relaxed_still : (q : Rid) → IsOpen t.network t.flow t.k q → IsSettled marks (tail t.network q) → IsRelaxed t h marks q → IsRelaxed t (waiting_with h (head t.network r) key) marks q
    relaxed_still q p e done =
        let at_tail = key_kept (tail t.network q) (tail_is_node q p.arc) e in
        let le = done.key in
        record {
          reached = reached_still (head t.network q) (head_is_node q p.arc) done.reached;
          key = elim (read_key (head t.network q) (head_is_node q p.arc)) [
            | inl (is, value) ↦
                (let waited : Waits h (head t.network r) = elim done.reached [
                  | inl settled ↦ absurd (settled_other (head t.network q) settled is)
                  | inr waits ↦ subst (λ v. Waits h v) is waits
                ] in
                let lower = less waited in
                let same = ap (at_node h.keys) is in
                omega (arith, ints, le, at_tail, value, lower, same))
            | inr (_, same) ↦ omega (arith, ints, le, at_tail, same)
          ];
        }

    relaxed_now : IsRelaxed t (waiting_with h (head t.network r) key) marks r
    relaxed_now =
        let at_tail = key_kept (tail t.network r) last.is_node last.settled in
        record {
          reached = elim (read_wait (head t.network r) x_node) [ inl (_, now) ↦ inr now | inr (n, _) ↦ absurd (n refl) ];
          key = elim (read_key (head t.network r) x_node) [ inl (_, value) ↦ omega (arith, ints, value, key_is, at_tail) | inr (n, _) ↦ absurd (n refl) ];
        }

    pub lowered_search : IsSearch t (waiting_with h (head t.network r) key) marks rest
    lowered_search =
        record {
          key_count = length-set h.keys (head t.network r - 1) key ∙ search.key_count;
          waiting_count = length-set h.waiting (head t.network r - 1) true ∙ search.waiting_count;
          mark_count = search.mark_count;
          source = search.source;
          source_key = key_kept t.u task.from_is_node search.source ∙ search.source_key;
          target = search.target;
          apart = λ a i e. elim (read_wait a i) [
            | inl (is, _) ↦ absurd (settled_other a e is)
            | inr (_, same) ↦ same ∙ search.apart a i e
          ];
          paths = λ a i e. elim (read_key a i) [
            | inl (is, _) ↦ subst (λ v. HasPath t (waiting_with h (head t.network r) key) marks v) (sym is) new_path
            | inr (n, same) ↦ elim (reached_before_offer a i e) [
              | inl is ↦ absurd (n is)
              | inr was ↦ path_still a same (search.paths a i was)
            ]
          ];
          low = each_key (λ a z. pos 0 ≤ℤ z) key_low search.low;
          small = each_key (λ a z. z ≤ℤ pos (length_limit * member_count marks)) key_small search.small;
          smaller = λ a i e. let same = key_kept a i e in let le = search.smaller a i e in omega (arith, ints, same, le);
          level = λ a b i j e w. let same = key_kept a i e in elim (read_key b j) [
            | inl (_, value) ↦
                (let le = last.last a i e in let low = task.low r o in omega (arith, ints, same, value, key_is, le, low))
            | inr (n, as_was) ↦ elim (read_wait b j) [
              | inl (is, _) ↦ absurd (n is)
              | inr (_, kept) ↦ (let le = search.level a b i j e (sym kept ∙ w) in omega (arith, ints, same, as_was, le))
            ]
          ];
          relaxed = λ q p e. elim (search.relaxed q p e) [
            | inl done ↦ inl (relaxed_still q p e done)
            | inr has ↦ elim (Contains-cons r rest q has) [
              | inl same ↦ inl (subst (λ z. IsRelaxed t (waiting_with h (head t.network r) key) marks z) same relaxed_now)
              | inr more ↦ inr more
            ]
          ];
        }

  -- the same for whatever is still to come
  pub lowered_step : (h : Keyed) (marks : List Bool) (r : Rid) (key : ℤ) → IsLast t h marks (tail t.network r) → IsOpen t.network t.flow t.k r
      → in_table marks (head t.network r) ≡ false → key ≡ at_node h.keys (tail t.network r) +ℤ length_of t.network t.prices r
      → (Waits h (head t.network r) → key <ℤ at_node h.keys (head t.network r)) → (some : (rest : List Rid) × IsSearch t h marks (r ∷ rest))
      → IsStep t h (waiting_with h (head t.network r) key) marks r
  lowered_step h marks r key last o unsettled is less some =
      record {
        search = λ rest search. lowered_search h marks r key last o unsettled is less rest search;
        keeps = λ a i e. key_kept h marks r key last o unsettled is less some.0 some.1 a i e;
      }

  -- ---- the end

  -- labels: the keys of settled nodes up to a number, and that number elsewhere
  abbrev label_at : Keyed → List Bool → ℤ → ℕ → ℤ
  label_at h marks y v = if in_table marks v then int_min (at_node h.keys v) y else y

  label_most : (b : Bool) (x y : ℤ) → (if b then int_min x y else y) ≤ℤ y
  label_most true x y = omega (arith, ints, clamps)
  label_most false x y = omega (arith, ints)

  pub labels : (h : Keyed) (marks : List Bool) (y : ℤ) → IsSearch t h marks [] → pos 0 ≤ℤ y
      → ((v : ℕ) → IsNode (node_count t.network) v → Waits h v → y ≤ℤ at_node h.keys v) → HasPotential t.network t.flow t.prices t.k t.u t.w y
  labels h marks y search low above =
      record {
        label = label_at h marks y;
        begins = (let settled = search.source in let zero = search.source_key in
            ap (λ b. if b then int_min (at_node h.keys t.u) y else y) settled ∙ omega (arith, ints, clamps, zero, low));
        ends = ap (λ b. if b then int_min (at_node h.keys t.w) y else y) search.target;
        rises = λ r o. rises r o (in_table marks (tail t.network r)) refl (in_table marks (head t.network r)) refl;
      }
    where
      relaxed : (r : Rid) → IsOpen t.network t.flow t.k r → IsSettled marks (tail t.network r) → IsRelaxed t h marks r
      relaxed r o e = elim (search.relaxed r o e) [ inl done ↦ done | inr none ↦ absurd (none_contained r none) ]

      rises : (r : Rid) → IsOpen t.network t.flow t.k r → (a : Bool) → in_table marks (tail t.network r) ≡ a → (b : Bool) → in_table marks (head t.network r) ≡ b
          → label_at h marks y (head t.network r) ≤ℤ (label_at h marks y (tail t.network r) +ℤ length_of t.network t.prices r)
      rises r o false e b f =
          let here = ap (λ c. if c then int_min (at_node h.keys (tail t.network r)) y else y) e in
          let most = label_most (in_table marks (head t.network r)) (at_node h.keys (head t.network r)) y in
          let length = task.low r o in
          omega (arith, ints, here, most, length)
      rises r o true e true f =
          let here = ap (λ c. if c then int_min (at_node h.keys (tail t.network r)) y else y) e in
          let there = ap (λ c. if c then int_min (at_node h.keys (head t.network r)) y else y) f in
          let length = task.low r o in
          let le = (relaxed r o e).key in
          omega (arith, ints, clamps, here, there, length, le)
      rises r o true e false f =
          let here = ap (λ c. if c then int_min (at_node h.keys (tail t.network r)) y else y) e in
          let there = ap (λ c. if c then int_min (at_node h.keys (head t.network r)) y else y) f in
          let length = task.low r o in
          let done = relaxed r o e in
          let le = done.key in
          let waits : Waits h (head t.network r) = elim done.reached [
            | inl settled ↦ absurd (waits_not (in_table marks (head t.network r)) settled f)
            | inr w ↦ w
          ] in
          let most = above (head t.network r) (head_is_node r o.arc) waits in
          omega (arith, ints, clamps, here, there, length, le, most)

  -- the node where walks end comes first
  pub distance_found : (h : Keyed) (marks : List Bool) → IsSearch t h marks [] → IsFirst h t.w
      → IsDistance t.network t.flow t.prices t.k t.u t.w (Some (at_node h.keys t.w))
  distance_found h marks search first =
      let p = search.paths t.w task.to_is_node (inr first.waits) in
      record {
        path = (p.walk, p.path);
        potential = λ y low most. labels h marks y search low (λ v i e.
            let le = comes_first_low _ _ _ _ (first.precedes v (i.0, omega (arith, i, search.waiting_count)) e) in omega (arith, ints, le, most));
      }

  pub distance_small : (h : Keyed) (marks : List Bool) → IsSearch t h marks [] → IsFirst h t.w → IsUpTo distance_limit (at_node h.keys t.w)
  distance_small h marks search first =
      let reached : IsReached h marks t.w = inr first.waits in
      let low = search.low t.w task.to_is_node reached in
      let small = search.small t.w task.to_is_node reached in
      let count = count_small marks in
      let few = task.few in
      let all = search.mark_count in
      (omega (arith, ints, low), omega (arith, ints, small, count, few, all))

  -- no node waits
  pub distance_none : (h : Keyed) (marks : List Bool) → IsSearch t h marks [] → NoneWaits h → IsDistance t.network t.flow t.prices t.k t.u t.w None
  distance_none h marks search none =
      record {
        path = tt;
        potential = λ y low most. labels h marks y search low (λ v i e.
            absurd (waits_not (in_table h.waiting v) e (ap (λ table. in_table table v) none ∙ unmarked (length h.waiting) v)));
      }

  -- both ends are one node
  pub distance_zero : t.u ≡ t.w → IsDistance t.network t.flow t.prices t.k t.u t.w (Some (pos 0))
  distance_zero same =
      record {
        path = (
          [],
          record {
            goes = same;
            open_arcs = λ i d l. absurd (omega arith);
            once = λ i j d l m. absurd (omega arith);
            away = λ i d l. absurd (omega arith);
            length_is = (let prices = ap (at_node t.prices) same in omega (arith, ints, prices));
          },
        );
        potential = λ y low most. record {
          label = λ v. pos 0;
          begins = refl;
          ends = omega (arith, ints, low, most);
          rises = λ r o. let length = task.low r o in omega (arith, ints, length);
        };
      }
