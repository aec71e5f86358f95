-- What the steps of a search for the greatest prices keep.
use Rattle.std.proofs.Common.{◌≡◌, ◌≢◌, ℕ, ◌+◌, ◌-◌, ◌≤◌, Bool, true, false, List, [], ◌∷◌, ◌++◌, length, set, ℤ, pos, neg_ℤ, ◌+ℤ◌, ◌-ℤ◌, ◌*ℤ◌, ◌≤ℤ◌, refl, sym}
use Rattle.std.proofs.Common.{ap, subst, ◌∙◌, arith, ◌⊎◌, inl, inr, length-set}
use Rattle.std.specs.Prelude.{◌↔◌}
use Rattle.std.specs.List.{All, Contains}
use Rattle.std.proofs.lemmas.Bool.{true≢false}
use Rattle.std.proofs.lemmas.Int.{ints}
use Rattle.std.proofs.lemmas.List.{append_assoc, get_or-map, get_or-replicate, length-map, length-replicate, set-get_or}
use Rattle.std.proofs.lemmas.List.Elements.{All-contains, All-head, All-push, All-tail, Contains-append_cases, Contains-append_left, Contains-append_right}
use Rattle.mcf_flows.specs.Blocking.{in_table}
use Rattle.mcf_flows.specs.Flow.{AreLowPrices}
use Rattle.mcf_flows.specs.Network.{Network, IsArcNumber, IsNode, at_node, node_count}
use Rattle.mcf_flows.specs.WellFormed.{IsUpTo}
use Rattle.mcf_flows.proofs.IntLaws.{add-mul, mul-mono_left, zero-mul}
use Rattle.mcf_network.specs.declared.rid.Rid.{Rid}
use Rattle.mcf_network.specs.NodeSets.{member_count}
use Rattle.mcf_network.specs.Residual.{tail, head, unit_cost}
use Rattle.mcf_network.specs.Stars.{Leaves}
use Rattle.mcf_network.specs.States.{Pseudoflow, IsPseudoflow}
use Rattle.mcf_network.specs.Walks.{HasRoom}
use Rattle.mcf_network.proofs.ArcLaws.{head_is_node, tail_is_node}
use Rattle.mcf_network.proofs.Lists.{All-behind, Contains-cons}
use Rattle.mcf_network.proofs.Marks.{count_small, read_node}
use Rattle.mcf_engine.specs.Heaps.{ComesFirst, IsFirst, Keyed, Waits, waiting_with, with_key, without}
use Rattle.mcf_engine.specs.NearPrices.{near_limit}
use Rattle.mcf_engine.specs.Private.Raisings.{ArePassed, CostsAtLeast, IsLastSettled, IsLength, IsOffer, IsPassedFrom, IsPopped, IsRaising, IsRelaxed, IsScanned, IsSettledNext, KeepsSettled, RespectsLabel, Settled}
use Rattle.mcf_engine.specs.Private.Raisings.{label, label_reach, step}
use Rattle.mcf_engine.specs.Private.Queues.{all_waiting}
use Rattle.mcf_engine.specs.Respecting.{reverse}
use Rattle.mcf_engine.specs.declared.near_state.NearState.{NearState}
use Rattle.mcf_engine.proofs.LabelLengths.{length_fewer, length_next, length_zero}
use Rattle.mcf_engine.proofs.Marks.{count_less}
use Rattle.mcf_engine.proofs.Reverses.{reversed}
use Rattle.mcf_engine.proofs.Showing.{cost_small, respects_from_shows}

-- the reverse of a residual arc leaves the node that the arc enters, and the other way round
pub tail_reversed : (g : Network) (k : ℕ) (b : Bool) → tail g (reverse (record { arc = k; back = b })) ≡ head g (record { arc = k; back = b })
tail_reversed g k true = refl
tail_reversed g k false = refl

pub head_reversed : (g : Network) (k : ℕ) (b : Bool) → head g (reverse (record { arc = k; back = b })) ≡ tail g (record { arc = k; back = b })
head_reversed g k true = refl
head_reversed g k false = refl

-- nothing is in an empty list
pub none_contained : (r : Rid) → Contains [] r → ⊥
none_contained r has = (let l = has.1 in omega (arith, l))

waits_or_settled : (h : Keyed) (v : ℕ) → Waits h v → Settled h v → ⊥
waits_or_settled h v waits settled = true≢false (sym waits ∙ settled)

comes_first_low : (x y : ℤ) (a b : ℕ) → ComesFirst x a y b → x ≤ℤ y
comes_first_low x y a b (inl h) = omega (arith, ints, h)
comes_first_low x y a b (inr h) = (let e = h.0 in omega (arith, ints, e))

-- a waiting node that waits with another key
pub waiting_again : (h : Keyed) (v : ℕ) (key : ℤ) → Waits h v → waiting_with h v key ≡ with_key h v key
waiting_again h v key waits =
    let table : List Bool → Keyed = λ (t : List Bool). record { keys = set h.keys (v - 1) key; waiting = t } in
    ap table (ap (λ b. set h.waiting (v - 1) b) (sym waits) ∙ set-get_or h.waiting (v - 1) false)

-- the node that was settled last stays so
pub last_kept : (nodes : ℕ) (h h' : Keyed) (w : ℕ) → KeepsSettled nodes h h' → IsLastSettled nodes h w → IsLastSettled nodes h' w
last_kept nodes h h' w keeps last =
    let before : (u : ℕ) → Settled h' u → Settled h u = λ (u : ℕ) (e : Settled h' u). subst (λ t. in_table t u ≡ false) keeps.waiting e in
    record {
      is_node = last.is_node;
      is_settled = subst (λ t. in_table t w ≡ false) (sym keeps.waiting) last.is_settled;
      last = λ u n e.
          let low = last.last u n (before u e) in
          let a = keeps.keys u n (before u e) in
          let b = keeps.keys w last.is_node last.is_settled in
          omega (arith, ints, low, a, b);
    }

-- a node that waits, and none that waits has a less key
pub record HasLeastKey (h : Keyed) (v : ℕ) : Type 0 where
  pub is_node : IsNode (length h.waiting) v
  pub waits : Waits h v
  pub least : (w : ℕ) → IsNode (length h.waiting) w → Waits h w → at_node h.keys v ≤ℤ at_node h.keys w

pub first_is_least : (h : Keyed) (v : ℕ) → IsFirst h v → HasLeastKey h v
first_is_least h v first =
    record { is_node = first.is_node; waits = first.waits; least = λ w n e. comes_first_low _ _ _ _ (first.precedes w n e) }

-- one after the other
pub keeps_join : (nodes : ℕ) (a b c : Keyed) → KeepsSettled nodes a b → KeepsSettled nodes b c → KeepsSettled nodes a c
keeps_join nodes a b c first second =
    record {
      waiting = second.waiting ∙ first.waiting;
      keys = λ v n e. second.keys v n (subst (λ t. in_table t v ≡ false) (sym first.waiting) e) ∙ first.keys v n e;
    }

settled_from : (t b : Bool) → ((b ≡ true) ↔ (t ≡ true)) → b ≡ false → t ≡ false
settled_from false b e f = refl
settled_from true b e f = absurd (true≢false (sym (e.1 refl) ∙ f))

-- one residual arc more is passed over
pub passed_more : (s : Pseudoflow) (passed : ℤ) (list rest : List Rid) (out : Rid) → CostsAtLeast s passed (reverse out)
    → ArePassed s passed list (out ∷ rest) → ArePassed s passed list rest
passed_more s passed list rest out costs before =
    record {
      first = before.first ++ out ∷ [];
      costs = All-push (λ (r : Rid). CostsAtLeast s passed (reverse r)) before.first out before.costs costs;
      whole = before.whole ∙ sym (append_assoc before.first (out ∷ []) rest);
    }

-- the last residual arc of all was relaxed
pub scanned : (p : NearState) (h h' : Keyed) (out : Rid) → IsRelaxed p h h' out → IsRaising p h (out ∷ []) → IsScanned p h h'
scanned p h h' out relaxed search = record { search = relaxed.search [] search; waiting = relaxed.keeps.waiting }

-- a residual arc that leaves the node that was settled last, whose label is the base, and those
-- after it are still to come
pub record IsFound (p : NearState) (h : Keyed) (w : ℕ) (base : ℤ) (out : Rid) (rest : List Rid) : Type 0 where
  pub arc : IsArcNumber p.state.now.net out.arc
  pub leaves : All (Leaves p.state.now.net w) rest
  pub search : IsRaising p h (out ∷ rest)
  pub last : IsLastSettled (node_count p.state.now.net) h (tail p.state.now.net out)
  pub base_is : base ≡ label p.prices.now h (tail p.state.now.net out)

-- the label of a settled node stays as it was
pub base_kept : (y : List ℤ) (old h : Keyed) (nodes w : ℕ) (base : ℤ) → base ≡ label y old w → IsLastSettled nodes old w → KeepsSettled nodes old h
    → base ≡ label y h w
base_kept y old h nodes w base is last keeps = is ∙ ap (λ (z : ℤ). at_node y w +ℤ z) (sym (keeps.keys w last.is_node last.is_settled))

module _ (p : NearState) (flow : IsPseudoflow p.state.now) where
  head_node : (r : Rid) → HasRoom p.state.now r → IsNode (node_count p.state.now.net) (head p.state.now.net r)
  head_node r room = head_is_node p.state.now.net r.arc r.back flow.of_net room.arc

  tail_node : (r : Rid) → HasRoom p.state.now r → IsNode (node_count p.state.now.net) (tail p.state.now.net r)
  tail_node r room = tail_is_node p.state.now.net r.arc r.back flow.of_net room.arc

  pub price_small : (v : ℕ) → IsNode (node_count p.state.now.net) v → IsUpTo near_limit (at_node p.prices.now v)
  price_small v n = p.near.small (v - 1) (pos 0) (let count = p.near.one_per_node in omega (arith, n, count))

  pub label_small : (h : Keyed) (rest : List Rid) → IsRaising p h rest → (v : ℕ) → IsNode (node_count p.state.now.net) v → IsUpTo label_reach (label p.prices.now h v)
  label_small h rest search v n =
      let length = search.lengths v n in
      let low = length.low in
      let few = length.few in
      let up = search.not_above v n in
      let limit = flow.of_net.nodes in
      (omega (arith, ints, low, few, limit), omega (arith, ints, up))

  -- all nodes wait with the label 0
  pub started : (h : Keyed) → h ≡ all_waiting p.prices.now → IsRaising p h []
  started h is =
      let count = p.near.one_per_node in
      let y = p.prices.now in
      let all : length h.waiting ≡ length y = ap (λ (k : Keyed). length k.waiting) is ∙ length-replicate (length y) true in
      let zero : (v : ℕ) → IsNode (node_count p.state.now.net) v → label y h v ≡ pos 0 = λ (v : ℕ) (n : IsNode (node_count p.state.now.net) v).
      let key = ap (λ (k : Keyed). at_node k.keys v) is ∙ get_or-map neg_ℤ y (v - 1) (pos 0) (pos 0) (omega (arith, n, count)) in
      omega (arith, ints, key) in
      let waits : (v : ℕ) → IsNode (node_count p.state.now.net) v → Settled h v
      → ⊥ = λ (v : ℕ) (n : IsNode (node_count p.state.now.net) v) (e : Settled h v).
      waits_or_settled h v (ap (λ (k : Keyed). in_table k.waiting v) is ∙ get_or-replicate (length y) (v - 1) true false (omega (arith, n, count))) e in
      record {
        flow = flow;
        key_count = ap (λ (k : Keyed). length k.keys) is ∙ length-map y neg_ℤ ∙ count;
        waiting_count = all ∙ count;
        not_above = λ v n. let z = zero v n in omega (arith, ints, z);
        lengths = λ v n. length_zero p.scale p.slack (member_count h.waiting) (node_count p.state.now.net) (label y h v)
            (omega (arith, count_small h.waiting, all, count)) (zero v n);
        shorter = λ v n e. absurd (waits v n e);
        above = λ others low v n.
            let up = low.not_above_zero (v - 1) (pos 0) (omega (arith, n, low.one_per_node)) in
            let z = zero v n in
            omega (arith, ints, z, mul-mono_left (at_node others v) (pos 0) (pos p.scale) (omega (arith, ints)) up, zero-mul (pos p.scale));
        level = λ u v m n e w. absurd (waits u m e);
        respects = λ r room e. absurd (waits (head p.state.now.net r) (head_node r room) e);
      }

  -- ---- a node with the least key is taken out, and settled

  module _ (h : Keyed) (w : ℕ) (search : IsRaising p h []) (first : HasLeastKey h w) where
    here : IsNode (node_count p.state.now.net) w
    here = let n = first.is_node in (n.0, omega (arith, n, search.waiting_count))

    read : (v : ℕ) → 1 ≤ v → ((v ≡ w) × (in_table (without h w).waiting v ≡ false)) ⊎ ((v ≢ w) × (in_table (without h w).waiting v ≡ in_table h.waiting v))
    read v low = read_node h.waiting w v false false first.is_node low

    settled_before : (v : ℕ) → 1 ≤ v → Settled (without h w) v → (v ≡ w) ⊎ Settled h v
    settled_before v low e =
        elim (read v low) [ inl (is, _) ↦ inl is | inr (_, same) ↦ inr (sym same ∙ e) ]

    waited_before : (v : ℕ) → 1 ≤ v → Waits (without h w) v → Waits h v
    waited_before v low e =
        elim (read v low) [ inl (_, gone) ↦ absurd (waits_or_settled (without h w) v e gone) | inr (_, same) ↦ sym same ∙ e ]

    pub fewer : member_count (without h w).waiting + 1 ≡ member_count h.waiting
    fewer = let n = first.is_node in count_less h.waiting (w - 1) (omega (arith, n)) first.waits

    popped_last : IsLastSettled (node_count p.state.now.net) (without h w) w
    popped_last =
        record {
          is_node = here;
          is_settled = elim (read w here.0) [ inl (_, gone) ↦ gone | inr (n, _) ↦ absurd (n refl) ];
          last = λ u n e. elim (settled_before u n.0 e) [
            | inl is ↦ (let same = ap (at_node h.keys) is in omega (arith, ints, same))
            | inr was ↦ search.level u w n here was first.waits
          ];
        }

    -- whatever list has the reverses of the residual arcs that enter the node, but for those that
    -- are respected
    popped_any : (rest : List Rid)
        → ((r : Rid) → HasRoom p.state.now r → head p.state.now.net r ≡ w → RespectsLabel p (without h w) r ⊎ Contains rest (reverse r))
        → IsRaising p (without h w) rest
    popped_any rest entering =
        record {
          flow = flow;
          key_count = search.key_count;
          waiting_count = length-set h.waiting (w - 1) false ∙ search.waiting_count;
          not_above = search.not_above;
          lengths = λ v n. length_fewer p.scale p.slack (member_count h.waiting) (member_count (without h w).waiting) (node_count p.state.now.net) (label p.prices.now h v)
              (omega (arith, fewer)) (search.lengths v n);
          shorter = λ v n e. elim (settled_before v n.0 e) [
            | inl is ↦ subst (λ m. IsLength p.scale p.slack m (node_count p.state.now.net) (label p.prices.now h v)) (sym fewer) (search.lengths v n)
            | inr was ↦ length_fewer p.scale p.slack (member_count h.waiting + 1) (member_count (without h w).waiting + 1) (node_count p.state.now.net) (label p.prices.now h v)
                (omega (arith, fewer)) (search.shorter v n was)
          ];
          above = search.above;
          level = λ u v m n e waits. elim (settled_before u m.0 e) [
            | inl is ↦ (
                let low = first.least v (n.0, omega (arith, n, search.waiting_count)) (waited_before v n.0 waits) in
                let same = ap (at_node h.keys) is in
                omega (arith, ints, low, same))
            | inr was ↦ search.level u v m n was (waited_before v n.0 waits)
          ];
          respects = λ r room e. elim (settled_before (head p.state.now.net r) (head_node r room).0 e) [
            | inl is ↦ elim (entering r room is) [ inl respects ↦ inl (respects room) | inr has ↦ inr has ]
            | inr was ↦ elim (search.respects r room was) [ inl a ↦ inl a | inr has ↦ absurd (none_contained (reverse r) has) ]
          ];
        }

    pub popped_is : IsPopped p (without h w) w
    popped_is =
        record {
          flow = flow;
          key_count = search.key_count;
          low = (label_small h [] search w here).0;
          not_above = search.not_above;
          last = popped_last;
          search = popped_any;
        }

  -- ---- a residual arc is respected

  -- the tail is settled, with a key no greater than that of the head
  pub settled_respects : (h : Keyed) (r : Rid) → IsLastSettled (node_count p.state.now.net) h (head p.state.now.net r) → Settled h (tail p.state.now.net r)
      → RespectsLabel p h r
  settled_respects h r last settled room =
      let low = last.last (tail p.state.now.net r) (tail_node r room) settled in
      let cheap = p.near.near r room in
      omega (arith, ints, low, cheap)

  pub kept : (h : Keyed) (out : Rid) (rest : List Rid) → RespectsLabel p h (reverse out) → IsRaising p h (out ∷ rest)
      → IsRaising p h rest
  kept h out rest respects search =
      record {
        flow = flow;
        key_count = search.key_count;
        waiting_count = search.waiting_count;
        not_above = search.not_above;
        lengths = search.lengths;
        shorter = search.shorter;
        above = search.above;
        level = search.level;
        respects = λ r room e. elim (search.respects r room e) [
          | inl a ↦ inl a
          | inr has ↦ elim (Contains-cons out rest (reverse r) has) [
            | inl is ↦ inl (let same : reverse out ≡ r = reversed out r is in subst (λ q. RespectsLabel p h q) same respects room)
            | inr later ↦ inr later
          ]
        ];
      }

  -- a residual arc of a cost from which on none offers its tail a label below 0
  costly_respects : (h : Keyed) (rest : List Rid) (base passed : ℤ) (r : Rid) → IsRaising p h rest → base ≡ label p.prices.now h (head p.state.now.net r)
      → IsPassedFrom p.scale base passed → CostsAtLeast p.state.now passed r → RespectsLabel p h r
  costly_respects h rest base passed r search is from costs room =
      let low = from (unit_cost p.state.now.net r) (costs room) in
      let up = search.not_above (tail p.state.now.net r) (tail_node r room) in
      omega (arith, ints, low, up, is)

  -- some residual arcs of a list are passed over
  pub passed_list : (h : Keyed) (w : ℕ) (base passed : ℤ) (front list rest : List Rid) → base ≡ label p.prices.now h w → IsPassedFrom p.scale base passed
      → All (Leaves p.state.now.net w) list → ArePassed p.state.now passed list rest → IsRaising p h (front ++ list) → IsRaising p h (front ++ rest)
  passed_list h w base passed front list rest is from leaves before search =
      record {
        flow = flow;
        key_count = search.key_count;
        waiting_count = search.waiting_count;
        not_above = search.not_above;
        lengths = search.lengths;
        shorter = search.shorter;
        above = search.above;
        level = search.level;
        respects = λ r room e. elim (search.respects r room e) [
          | inl a ↦ inl a
          | inr has ↦ elim (Contains-append_cases front list (reverse r) has) [
            | inl here ↦ inr (Contains-append_left front rest (reverse r) here)
            | inr there ↦ elim (Contains-append_cases before.first rest (reverse r) (subst (λ (xs : List Rid). Contains xs (reverse r)) before.whole there)) [
              | inr later ↦ inr (Contains-append_right front rest (reverse r) later)
              | inl first ↦ inl (
                  let same : reverse (reverse r) ≡ r = reversed (reverse r) r refl in
                  let costs = All-contains (λ (q : Rid). CostsAtLeast p.state.now passed (reverse q)) before.first (reverse r) before.costs first in
                  let leaves_w = (All-contains (Leaves p.state.now.net w) list (reverse r) leaves there).from in
                  let at : head p.state.now.net r ≡ w = sym (tail_reversed p.state.now.net r.arc r.back) ∙ leaves_w in
                  costly_respects h (front ++ list) base passed r search (is ∙ ap (λ v. label p.prices.now h v) (sym at)) from
                  (subst (λ q. CostsAtLeast p.state.now passed q) same costs) room)
            ]
          ]
        ];
      }

  pub found : (h : Keyed) (w : ℕ) (base passed : ℤ) (list rest : List Rid) (out : Rid) → base ≡ label p.prices.now h w → IsPassedFrom p.scale base passed
      → IsLastSettled (node_count p.state.now.net) h w → All (Leaves p.state.now.net w) list → ArePassed p.state.now passed list (out ∷ rest) → IsRaising p h list
      → IsFound p h w base out rest
  found h w base passed list rest out is from last leaves before search =
      let here : All (Leaves p.state.now.net w) (out ∷ rest) = All-behind (Leaves p.state.now.net w) before.first (out ∷ rest)
      (subst (λ (xs : List Rid). All (Leaves p.state.now.net w) xs) before.whole leaves) in
      let first = All-head (Leaves p.state.now.net w) out rest here in
      record {
        arc = first.arc;
        leaves = All-tail (Leaves p.state.now.net w) out rest here;
        search = passed_list h w base passed [] list (out ∷ rest) is from leaves before search;
        last = subst (λ x. IsLastSettled (node_count p.state.now.net) h x) (sym first.from) last;
        base_is = is ∙ ap (λ x. label p.prices.now h x) (sym first.from);
      }

  -- ---- the key of the tail is lowered

  module _ (h : Keyed) (r : Rid) (key : ℤ) (room : HasRoom p.state.now r) (key_count : length h.keys ≡ node_count p.state.now.net)
      (last : IsLastSettled (node_count p.state.now.net) h (head p.state.now.net r)) (waits : Waits h (tail p.state.now.net r))
      (is : key ≡ label p.prices.now h (head p.state.now.net r) +ℤ step p r -ℤ at_node p.prices.now (tail p.state.now.net r)) where
    lower_read : (v : ℕ) → 1 ≤ v
        → ((v ≡ tail p.state.now.net r) × (at_node (with_key h (tail p.state.now.net r) key).keys v ≡ key)) ⊎
        ((v ≢ tail p.state.now.net r) × (at_node (with_key h (tail p.state.now.net r) key).keys v ≡ at_node h.keys v))
    lower_read v low =
        let n = tail_node r room in
        read_node h.keys (tail p.state.now.net r) v key (pos 0) (n.0, omega (arith, n, key_count)) low

    -- settled nodes keep their keys
    settled_key : (v : ℕ) → 1 ≤ v → Settled h v → at_node (with_key h (tail p.state.now.net r) key).keys v ≡ at_node h.keys v
    settled_key v low e =
        elim (lower_read v low) [
          | inl (here', _) ↦ absurd (waits_or_settled h v (subst (λ x. Waits h x) (sym here') waits) e)
          | inr (_, same) ↦ same
        ]

    settled_label : (v : ℕ) → 1 ≤ v → Settled h v → label p.prices.now (with_key h (tail p.state.now.net r) key) v ≡ label p.prices.now h v
    settled_label v low e = ap (λ z. at_node p.prices.now v +ℤ z) (settled_key v low e)

    tail_label : (v : ℕ) → v ≡ tail p.state.now.net r → at_node (with_key h (tail p.state.now.net r) key).keys v ≡ key
        → label p.prices.now (with_key h (tail p.state.now.net r) key) v ≡ label p.prices.now h (head p.state.now.net r) +ℤ step p r
    tail_label v e k =
        let same = ap (at_node p.prices.now) e in
        omega (arith, ints, is, k, same)

    pub lowered_keeps : KeepsSettled (node_count p.state.now.net) h (with_key h (tail p.state.now.net r) key)
    lowered_keeps = record { waiting = refl; keys = λ v n e. settled_key v n.0 e }

    module _ (less : key ≤ℤ at_node h.keys (tail p.state.now.net r)) (out : Rid) (back : reverse out ≡ r) (rest : List Rid)
        (search : IsRaising p h (out ∷ rest)) where
      no_rise : (v : ℕ) → 1 ≤ v → label p.prices.now (with_key h (tail p.state.now.net r) key) v ≤ℤ label p.prices.now h v
      no_rise v low =
          elim (lower_read v low) [
            | inl (e, k) ↦ (let same = ap (at_node h.keys) e in omega (arith, ints, k, less, same))
            | inr (_, same) ↦ omega (arith, ints, same)
          ]

      lowered_lengths : (v : ℕ) → IsNode (node_count p.state.now.net) v
          → IsLength p.scale p.slack (member_count h.waiting) (node_count p.state.now.net) (label p.prices.now (with_key h (tail p.state.now.net r) key) v)
      lowered_lengths v n =
          elim (lower_read v n.0) [
            | inl (e, k) ↦ length_next p.scale p.slack (member_count h.waiting) (node_count p.state.now.net) (unit_cost p.state.now.net r) (label p.prices.now h (head p.state.now.net r)) _
                p.near.scale_small (cost_small p.state.now.net r.arc r.back flow.of_net room.arc) (tail_label v e k)
                (search.shorter (head p.state.now.net r) last.is_node last.is_settled)
            | inr (_, same) ↦ subst (λ z. IsLength p.scale p.slack (member_count h.waiting) (node_count p.state.now.net) (at_node p.prices.now v +ℤ z)) (sym same) (search.lengths v n)
          ]

      lowered_above : (others : List ℤ) → AreLowPrices p.state.now.net others p.state.now.amounts → (v : ℕ) → IsNode (node_count p.state.now.net) v
          → (at_node others v *ℤ pos p.scale) ≤ℤ label p.prices.now (with_key h (tail p.state.now.net r) key) v
      lowered_above others low v n =
          elim (lower_read v n.0) [
            | inl (e, k) ↦ (
                let shown = respects_from_shows p.state.now others r.arc r.back flow low.show_flow room in
                let scaled = mul-mono_left (at_node others (tail p.state.now.net r)) (unit_cost p.state.now.net r +ℤ at_node others (head p.state.now.net r)) (pos p.scale)
                (omega (arith, ints)) shown in
                let there = search.above others low (head p.state.now.net r) last.is_node in
                let same = ap (λ x. at_node others x *ℤ pos p.scale) e in
                omega (arith, ints, scaled, there, same, tail_label v e k, add-mul (unit_cost p.state.now.net r) (at_node others (head p.state.now.net r)) (pos p.scale)))
            | inr (_, same) ↦ (let old = search.above others low v n in omega (arith, ints, same, old))
          ]

      lowered_level : (u v : ℕ) → IsNode (node_count p.state.now.net) u → IsNode (node_count p.state.now.net) v → Settled h u → Waits h v
          → at_node (with_key h (tail p.state.now.net r) key).keys u ≤ℤ at_node (with_key h (tail p.state.now.net r) key).keys v
      lowered_level u v m n settled waits' =
          let left = settled_key u m.0 settled in
          elim (lower_read v n.0) [
            | inl (e, k) ↦ (let low = last.last u m settled in let cheap = p.near.near r room in omega (arith, ints, left, low, cheap, is, k))
            | inr (_, same) ↦ (let old = search.level u v m n settled waits' in omega (arith, ints, left, same, old))
          ]

      pub lowered : IsRaising p (with_key h (tail p.state.now.net r) key) rest
      lowered =
          record {
            flow = flow;
            key_count = length-set h.keys (tail p.state.now.net r - 1) key ∙ key_count;
            waiting_count = search.waiting_count;
            not_above = λ v n. let old = search.not_above v n in let low = no_rise v n.0 in omega (arith, ints, old, low);
            lengths = lowered_lengths;
            shorter = λ v n e. subst (λ z. IsLength p.scale p.slack (member_count h.waiting + 1) (node_count p.state.now.net) z) (sym (settled_label v n.0 e))
                (search.shorter v n e);
            above = lowered_above;
            level = lowered_level;
            respects = λ q has_room e.
                let same = settled_label (head p.state.now.net q) (head_node q has_room).0 e in
                elim (search.respects q has_room e) [
                  | inl a ↦ inl (let low = no_rise (tail p.state.now.net q) (tail_node q has_room).0 in omega (arith, ints, a, same, low))
                  | inr has ↦ elim (Contains-cons out rest (reverse q) has) [
                    | inl this ↦ inl (self q (sym back ∙ reversed out q this))
                    | inr later ↦ inr later
                  ]
                ];
          }
        where
          self : (q : Rid) → r ≡ q
              → label p.prices.now (with_key h (tail p.state.now.net r) key) (tail p.state.now.net q) ≤ℤ (label p.prices.now (with_key h (tail p.state.now.net r) key) (head p.state.now.net q) +ℤ step p q)
          self q e =
              let tails = ap (λ (x : Rid). tail p.state.now.net x) (sym e) in
              let P : Rid → Type 0 = λ (x : Rid). label p.prices.now (with_key h (tail p.state.now.net r) key)
              (tail p.state.now.net x) ≤ℤ (label p.prices.now (with_key h (tail p.state.now.net r) key) (head p.state.now.net x) +ℤ step p x) in
              subst P e (
              let there = settled_label (head p.state.now.net r) last.is_node.0 last.is_settled in
              elim (lower_read (tail p.state.now.net r) (tail_node r room).0) [
                | inl (f, k) ↦ (let here' = tail_label (tail p.state.now.net r) refl k in omega (arith, ints, there, here'))
                | inr (n, _) ↦ absurd (n refl)
              ])

  -- ---- a residual arc is relaxed, as the code does it

  module _ (h : Keyed) (out : Rid) (last : IsLastSettled (node_count p.state.now.net) h (tail p.state.now.net out)) where
    last_head : IsLastSettled (node_count p.state.now.net) h (head p.state.now.net (reverse out))
    last_head = subst (λ x. IsLastSettled (node_count p.state.now.net) h x) (sym (head_reversed p.state.now.net out.arc out.back)) last

    pub settled_tail : (from : ℕ) (b : Bool) → from ≡ tail p.state.now.net (reverse out) → ((b ≡ true) ↔ Waits h from) → b ≡ false
        → RespectsLabel p h (reverse out)
    settled_tail from b e test none =
        settled_respects h (reverse out) last_head (subst (λ x. Settled h x) e (settled_from (in_table h.waiting from) b test none))

    -- the tail has a key no greater than what is offered
    pub lower_tail : (from : ℕ) (key : ℤ) → from ≡ tail p.state.now.net (reverse out)
        → at_node p.prices.now from +ℤ key ≡ label p.prices.now h (tail p.state.now.net out) +ℤ step p (reverse out) → at_node h.keys from ≤ℤ key
        → RespectsLabel p h (reverse out)
    lower_tail from key e value low room =
        let a = ap (at_node p.prices.now) e in
        let b = ap (at_node h.keys) e in
        let c = ap (λ x. label p.prices.now h x) (head_reversed p.state.now.net out.arc out.back) in
        omega (arith, ints, a, b, c, value, low)

    pub relax_respected : RespectsLabel p h (reverse out) → IsRelaxed p h h out
    relax_respected respects = record { search = λ rest search. kept h out rest respects search; keeps = record { waiting = refl; keys = λ v n e. refl } }

    module _ (h' : Keyed) (from : ℕ) (key : ℤ) (offer : IsOffer p h out from key) where
      offer_waits : Waits h (tail p.state.now.net (reverse out))
      offer_waits = subst (λ x. Waits h x) offer.from_is offer.waits

      offer_is : key ≡ label p.prices.now h (head p.state.now.net (reverse out)) +ℤ step p (reverse out) -ℤ at_node p.prices.now (tail p.state.now.net (reverse out))
      offer_is =
          let a = ap (at_node p.prices.now) offer.from_is in
          let c = ap (λ x. label p.prices.now h x) (head_reversed p.state.now.net out.arc out.back) in
          let value = offer.value in
          omega (arith, ints, a, c, value)

      offer_least : key ≤ℤ at_node h.keys (tail p.state.now.net (reverse out))
      offer_least = let b = ap (at_node h.keys) offer.from_is in let least = offer.least in omega (arith, ints, b, least)

      pub relax_lowered : length h.keys ≡ node_count p.state.now.net → h' ≡ waiting_with h from key → IsRelaxed p h h' out
      relax_lowered count new =
          let same : h' ≡ with_key h (tail p.state.now.net (reverse out)) key = new ∙ ap (λ x. waiting_with h x key) offer.from_is
          ∙ waiting_again h (tail p.state.now.net (reverse out)) key offer_waits in
          record {
            search = λ rest search. subst (λ x. IsRaising p x rest) (sym same)
                (lowered h (reverse out) key offer.room count last_head offer_waits offer_is offer_least out refl rest search);
            keeps = subst (λ x. KeepsSettled (node_count p.state.now.net) h x) (sym same)
                (lowered_keeps h (reverse out) key offer.room count last_head offer_waits offer_is);
          }

      pub offer_node : length h.waiting ≡ node_count p.state.now.net → IsNode (length h.waiting) from
      offer_node count = let node = tail_node (reverse out) offer.room in (rw offer.from_is node.0, rw (offer.from_is, count) node.1)

      -- the tail is settled at once, with a key that is no greater than that of the node that was
      -- settled last
      pub relax_settles : IsRaising p h (out ∷ []) → key ≤ℤ at_node h.keys (tail p.state.now.net out)
          → h' ≡ without (with_key h from key) from → IsSettledNext p h h' from
      relax_settles search tied new =
          let t = tail p.state.now.net (reverse out) in
          let node = tail_node (reverse out) offer.room in
          let read = lower_read h (reverse out) key offer.room search.key_count last_head offer_waits offer_is in
          let here : at_node (with_key h t key).keys t ≡ key = elim (read t node.0) [ inl (_, k) ↦ k | inr (n, _) ↦ absurd (n refl) ] in
          let raising = lowered h (reverse out) key offer.room search.key_count last_head offer_waits offer_is offer_least out refl [] search in
          let least : HasLeastKey (with_key h t key) t = record {
            is_node = (node.0, omega (arith, node, search.waiting_count));
            waits = offer_waits;
            least = λ v n waiting. elim (read v n.0) [
              | inl (_, k) ↦ omega (arith, ints, here, k)
              | inr (_, same) ↦ (
                  let up = search.level (tail p.state.now.net out) v last.is_node (n.0, omega (arith, n, search.waiting_count)) last.is_settled waiting in
                  omega (arith, ints, here, same, up, tied))
            ];
          } in
          let made : IsSettledNext p h (without (with_key h t key) t) t = record {
            popped = popped_is (with_key h t key) t raising least;
            fewer = fewer (with_key h t key) t raising least;
          } in
          subst (λ x. IsSettledNext p h x from) (sym new)
          (subst (λ v. IsSettledNext p h (without (with_key h v key) v) v) (sym offer.from_is) made)

      -- the heap takes the offer, unless the tail waits with the very key
      pub offer_taken : (b : Bool) → length h.keys ≡ node_count p.state.now.net → (b ≡ true → h' ≡ waiting_with h from key) → (b ≡ false → h' ≡ h)
          → (b ≡ false → Waits h from × (at_node h.keys from ≤ℤ key)) → IsRelaxed p h h' out
      offer_taken true count taken same least = relax_lowered count (taken refl)
      offer_taken false count taken same least =
          subst (λ x. IsRelaxed p h x out) (sym (same refl)) (relax_respected (lower_tail from key offer.from_is offer.value (least refl).1))
