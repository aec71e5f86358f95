-- The nets of all nodes, as a loop over the arcs makes them: it adds each arc's flow at one end and
-- takes it off at the other.
use Rattle.std.proofs.Common.{◌≡◌, ◌≢◌, ℕ, ◌+◌, ◌-◌, ◌*◌, ◌≤◌, ◌<◌, eqb, List, length, take, set, get_or, refl, ap, sym, ◌∙◌, arith, ℤ, pos, ◌+ℤ◌, ◌-ℤ◌}
use Rattle.std.proofs.Common.{neg_ℤ, inl, inr, lit<, to_z, of_z, length-set, get_or-set_same, get_or-set_other}
use Rattle.std.specs.List.{All}
use Rattle.std.proofs.lemmas.Int.{ints}
use Rattle.std.proofs.lemmas.Bool.{eq-eqb, ne_eqb, cases_eq}
use Rattle.std.proofs.lemmas.List.{get_or_read}
use Rattle.std.specs.Int.{w128}
use Rattle.mcf_flows.specs.Private.Sums.{sum_limit}
use Rattle.mcf_flows.specs.declared.arc.Arc.{Arc}
use Rattle.mcf_flows.specs.Limits.{arc_limit, limits}
use Rattle.mcf_flows.specs.Network.{IsNode, at_node, when}
use Rattle.mcf_flows.specs.Flow.{CanCarry, IsWithinBounds, net, AreNets}
use Rattle.mcf_flows.specs.WellFormed.{HasEnds, IsArcWithinLimits, IsUpTo}
use Rattle.mcf_flows.proofs.NodeSums.{when-neg}
use Rattle.mcf_flows.proofs.AllZips.{AllZip-at, length-AllZip}
use Rattle.mcf_flows.proofs.ArcSums.{flow_sum_more}
use Rattle.mcf_flows.proofs.Bounds.{IsPlaced, each_placed, flow_sum_up_to, flow_up_to, read_back, when_up_to}

-- a number added to the entry of one node
pub add_at_node : (xs : List ℤ) (s v : ℕ) (x d z : ℤ) → IsNode (length xs) s → IsNode (length xs) v → x ≡ at_node xs s → z ≡ x +ℤ d
    → at_node (set xs (s - 1) z) v ≡ at_node xs v +ℤ when (eqb s v) d
add_at_node xs s v x d z hs hv e k =
    elim (cases_eq s v) [
      | inl same ↦
          let p : s - 1 < length xs = omega arith in
          rw (eq-eqb s v same) (ap (λ u. get_or (set xs (s - 1) z) (u - 1) (pos 0)) (sym same) ∙ get_or-set_same xs (s - 1) z (pos 0) p
          ∙ omega (arith, ints, e, k, ap (at_node xs) same))
      | inr other ↦
          let q : (v - 1) ≢ (s - 1) = λ h. other (omega arith) in
          rw (ne_eqb s v other) (get_or-set_other xs (s - 1) (v - 1) z (pos 0) q ∙ omega (arith, ints))
    ]

-- the net of a node over one arc more
pub net_more : (arcs : List Arc) (flow : List ℤ) (i : ℕ) (d : Arc) (e : ℤ) (v : ℕ) → i < length arcs → i < length flow
    → net (take (i + 1) arcs) flow v ≡ net (take i arcs) flow v +ℤ when (eqb (get_or arcs i d).src v) (get_or flow i e) -ℤ when (eqb (get_or arcs i d).dst v)
    (get_or flow i e)
net_more arcs flow i d e v h k =
    omega (arith, ints, flow_sum_more (λ a f. when (eqb a.src v) f) arcs flow i d e h k, flow_sum_more (λ a f. when (eqb a.dst v) f) arcs flow i d e h k)

-- the net of a node over the first arcs is small
pub net_up_to : (arcs : List Arc) (flow : List ℤ) (i v : ℕ) → All (IsArcWithinLimits limits) arcs → length arcs ≤ arc_limit → IsWithinBounds arcs flow
    → i ≤ length arcs → IsUpTo (2 * sum_limit) (net (take i arcs) flow v)
net_up_to arcs flow i v small count bounds h =
    let all = each_placed arcs flow small bounds in
    let out = flow_sum_up_to IsPlaced (λ a f. when (eqb a.src v) f) limits.bound
    (λ a f q. when_up_to (eqb a.src v) limits.bound f (flow_up_to a f q)) arcs flow i
    all in
    let into = flow_sum_up_to IsPlaced (λ a f. when (eqb a.dst v) f) limits.bound
    (λ a f q. when_up_to (eqb a.dst v) limits.bound f (flow_up_to a f q)) arcs flow i
    all in
    omega (arith, ints, out, into)

-- what the loop needs once it has written the source's entry, where y is that of the destination,
-- and `after` the nets in the end
pub record NetStepSecond (nodes : ℕ) (arcs : List Arc) (flow after : List ℤ) (f y : ℤ) : Type 0 where
  pub entry_read : to_z w128 (of_z w128 y) ≡ y
  pub difference_read : to_z w128 (of_z w128 (y -ℤ f)) ≡ y -ℤ f
  pub entry_small : IsUpTo (3 * sum_limit) y
  pub next : AreNets nodes arcs flow after

-- two writes, at the ends s and t of an arc of flow f: the entries were `before`, and are `after`
module _ (nodes : ℕ) (before after : ℕ → ℤ) (nets : List ℤ) (s t : ℕ) (f x y : ℤ) (hs : IsNode nodes s) (ht : IsNode nodes t) (len : length nets ≡ nodes)
    (was : (v : ℕ) → IsNode nodes v → at_node nets v ≡ before v) (next : (v : ℕ) → after v ≡ before v +ℤ when (eqb s v) f -ℤ when (eqb t v) f)
    (is-x : x ≡ get_or nets (s - 1) x) (is-y : y ≡ get_or (set nets (s - 1) (x +ℤ f)) (t - 1) y) where
  first_entry : x ≡ at_node nets s
  first_entry =
      let p : s - 1 < length nets = omega (arith, len) in get_or_read nets (s - 1) x p is-x (pos 0)

  after_first : (v : ℕ) → IsNode nodes v → at_node (set nets (s - 1) (x +ℤ f)) v ≡ before v +ℤ when (eqb s v) f
  after_first v hv =
      add_at_node nets s v x f (x +ℤ f) (omega (arith, len)) (omega (arith, len)) first_entry refl ∙ ap (λ z. z +ℤ when (eqb s v) f) (was v hv)

  second_entry : y ≡ at_node (set nets (s - 1) (x +ℤ f)) t
  second_entry =
      let p : t - 1 < length (set nets (s - 1) (x +ℤ f)) = omega (arith, len, length-set nets (s - 1) (x +ℤ f)) in
      get_or_read (set nets (s - 1) (x +ℤ f)) (t - 1) y p is-y (pos 0)

  pub second_entry_is : y ≡ before t +ℤ when (eqb s t) f
  second_entry_is = second_entry ∙ after_first t ht

  pub after_both : (v : ℕ) → IsNode nodes v → at_node (set (set nets (s - 1) (x +ℤ f)) (t - 1) (y -ℤ f)) v ≡ after v
  after_both v hv =
      let l = length-set nets (s - 1) (x +ℤ f) in
      add_at_node (set nets (s - 1) (x +ℤ f)) t v y (neg_ℤ f) (y -ℤ f) (omega (arith, len, l)) (omega (arith, len, l)) second_entry refl
      ∙ omega (arith, ints, after_first v hv, next v, when-neg (eqb t v) f)

-- what the loop needs at arc i, where x is the entry of the arc's source
pub record NetStep (arcs : List Arc) (flow : List ℤ) (i : ℕ) (f x : ℤ) : Type 0 where
  pub in_range : i < length flow
  pub flow_read : to_z w128 (of_z w128 f) ≡ f
  pub entry_read : to_z w128 (of_z w128 x) ≡ x
  pub sum_read : to_z w128 (of_z w128 (x +ℤ f)) ≡ x +ℤ f
  pub flow_small : IsUpTo limits.bound f
  pub entry_small : IsUpTo (2 * sum_limit) x

module _ (nodes : ℕ) (arcs : List Arc) (flow nets : List ℤ) (i : ℕ) (d : Arc) (e : ℤ) (ends : All (HasEnds nodes) arcs)
    (small : All (IsArcWithinLimits limits) arcs) (count : length arcs ≤ arc_limit) (bounds : IsWithinBounds arcs flow)
    (known : AreNets nodes (take i arcs) flow nets) (h : i < length arcs) where
  flow_in_range : i < length flow
  flow_in_range = omega (arith, length-AllZip CanCarry arcs flow bounds)

  this_flow_small : IsUpTo limits.bound (get_or flow i e)
  this_flow_small =
      flow_up_to (get_or arcs i d) (get_or flow i e) (AllZip-at IsPlaced arcs flow i d e (each_placed arcs flow small bounds) h)

  pub net_step : (x : ℤ) → x ≡ get_or nets ((get_or arcs i d).src - 1) x → NetStep arcs flow i (get_or flow i e) x
  net_step x is =
      let s = (ends i d h).src_is_node in
      let p : (get_or arcs i d).src - 1 < length nets = omega (arith, known.one_per_node) in
      let at : x ≡ at_node nets (get_or arcs i d).src = get_or_read nets ((get_or arcs i d).src - 1) x p is (pos 0) in
      let small : IsUpTo (2 * sum_limit) x = omega (
        arith,
        ints,
        at,
        known.each (get_or arcs i d).src s,
        net_up_to arcs flow i
            (get_or arcs i d).src small count bounds (omega arith),
      ) in
      record {
        in_range = flow_in_range;
        flow_read = read_back (get_or flow i e) limits.bound this_flow_small (lit< tt);
        entry_read = read_back x (2 * sum_limit) small (lit< tt);
        sum_read = read_back (x +ℤ get_or flow i e) (3 * sum_limit) (omega (arith, ints, small, this_flow_small)) (lit< tt);
        flow_small = this_flow_small;
        entry_small = small;
      }

  pub net_step_second : (x y : ℤ) → x ≡ get_or nets ((get_or arcs i d).src - 1) x → y ≡ get_or (set nets ((get_or arcs i d).src - 1) (x +ℤ get_or flow i e))
      ((get_or arcs i d).dst - 1) y → NetStepSecond nodes (take (i + 1) arcs) flow
      (set (set nets ((get_or arcs i d).src - 1) (x +ℤ get_or flow i e)) ((get_or arcs i d).dst - 1) (y -ℤ get_or flow i e)) (get_or flow i e) y
  net_step_second x y is-x is-y =
      let a = get_or arcs i d in
      let f = get_or flow i e in
      let en = ends i d h in
      let next = λ (v : ℕ). net_more arcs flow i d e v h flow_in_range in
      let y-is = second_entry_is nodes (net (take i arcs) flow) (net (take (i + 1) arcs) flow) nets a.src a.dst f x y en.src_is_node en.dst_is_node
      known.one_per_node known.each next is-x is-y in
      let both = after_both nodes (net (take i arcs) flow) (net (take (i + 1) arcs) flow) nets a.src a.dst f x y en.src_is_node en.dst_is_node
      known.one_per_node known.each next is-x is-y in
      let small : IsUpTo (3 * sum_limit) y = omega (
        arith,
        ints,
        y-is,
        net_up_to arcs flow i a.dst small count bounds (omega arith),
        when_up_to
            (eqb a.src a.dst) limits.bound f this_flow_small,
      ) in
      record {
        entry_read = read_back y (3 * sum_limit) small (lit< tt);
        difference_read = read_back (y -ℤ f) (4 * sum_limit) (omega (arith, ints, small, this_flow_small)) (lit< tt);
        entry_small = small;
        next = record {
          one_per_node = length-set (set nets (a.src - 1) (x +ℤ f)) (a.dst - 1) (y -ℤ f) ∙ length-set nets (a.src - 1) (x +ℤ f)
              ∙ known.one_per_node;
          each = both;
        };
      }
