-- The net of a network: what it keeps, and how the loops make it.
use Rattle.std.proofs.Common.{◌≡◌, ◌≢◌, ℕ, ◌+◌, ◌-◌, ◌*◌, ◌≤◌, ◌<◌, max, eqb, List, [], ◌∷◌, ◌++◌, length, map, take, get_or, refl, sym, ap, subst, ◌∙◌}
use Rattle.std.proofs.Common.{arith, ℤ, pos, ◌+ℤ◌, ◌-ℤ◌, inl, inr}
use Rattle.std.specs.Prelude.{Some, slice_get, sum, unsigned_abs}
use Rattle.std.specs.List.{All, range_with_len}
use Rattle.std.proofs.Math.Seq.{take-length}
use Rattle.std.proofs.lemmas.Int.{ints}
use Rattle.std.proofs.lemmas.Bool.{cases_eq, eq-eqb, ne_eqb}
use Rattle.std.proofs.lemmas.List.{ext_get_or, get_or-map, length-map, length-take-le, map_more}
use Rattle.std.proofs.lemmas.Option.{get_or_from_slice_get}
use Rattle.std.proofs.lemmas.Simd.{map-map}
use Rattle.std.proofs.lemmas.List.Elements.{All-head, All-tail, All-map}
use Rattle.std.proofs.lemmas.List.FromFn.{get_or-map-range_with_len, length-map-range_with_len}
use Rattle.mcf_flows.specs.declared.arc.Arc.{Arc}
use Rattle.mcf_flows.specs.declared.arc.Link.{Link}
use Rattle.mcf_flows.specs.declared.problem.Problem.{Problem}
use Rattle.mcf_flows.specs.declared.problem.Problem.TheVariants.{Min, Asn}
use Rattle.mcf_flows.specs.Assignment.{IsAssignment, IsPairing, OnAssignment}
use Rattle.mcf_flows.specs.Flow.{IsWithinBounds, net}
use Rattle.mcf_flows.specs.Limits.{limits, total_limit}
use Rattle.mcf_flows.specs.Network.{Network, IsNode, at_node, flow_sum, node_count, when}
use Rattle.mcf_flows.specs.Packed.{unit_arc}
use Rattle.mcf_flows.specs.WellFormed.{HasEnds, IsArcWithinLimits, IsUpTo, IsWellFormed, weight}
use Rattle.mcf_flows.proofs.Bounds.{sum-weights-le, width_weight}
use Rattle.mcf_flows.proofs.NetSteps.{net_more, net_up_to}
use Rattle.mcf_network.specs.Nets.{IsNet, IsNetArc, net_total_limit, supply_limit}
use Rattle.mcf_network.specs.Removal.{lows, net_of, supply_left, width_of, without_low}
use Rattle.mcf_network.specs.Residual.{no_arc}
use Rattle.mcf_network.specs.Private.Surpluses.{surplus_reach}
use Rattle.mcf_network.specs.Private.Counting.{JoinNodes}
use Rattle.mcf_network.specs.Private.StoredLinks.{IsItsOwnNet}
use Rattle.mcf_network.specs.Private.Widths.{GainsWidth}
use Rattle.mcf_network.specs.Stored.{stored_arc, stored_arcs, stored_net, width_at}
use Rattle.mcf_network.proofs.StateLaws.{when-zero}
use Rattle.mcf_network.proofs.StoredLaws.{get_or-stored_arcs, length-stored_arcs, stored_arcs_more}

-- ---- one arc

pub width_loop : (a : Arc) → a.src ≡ a.dst → width_of a ≡ pos 0
width_loop a e = rw (eq-eqb a.src a.dst e) refl

pub width_plain : (a : Arc) → a.src ≢ a.dst → width_of a ≡ a.cap -ℤ a.low
width_plain a n = rw (ne_eqb a.src a.dst n) refl

pub net_arc_ok : (a : Arc) → IsArcWithinLimits limits a → IsNetArc (without_low a)
net_arc_ok a h =
    elim (cases_eq a.src a.dst) [
      | inl e ↦
          let none = width_loop a e in
          record {
            no_low = refl;
            width_low = omega (arith, ints, none);
            width_high = omega (arith, ints, none);
            cost_small = h.cost_small;
            no_loop_width = λ _. none;
          }
      | inr n ↦
          let wide = width_plain a n in
          let ordered = h.ordered in
          let low = h.low_small in
          let cap = h.cap_small in
          record {
            no_low = refl;
            width_low = omega (arith, ints, wide, ordered);
            width_high = omega (arith, ints, wide, low, cap);
            cost_small = h.cost_small;
            no_loop_width = λ e. absurd (n e);
          }
    ]

net_weight : (a : Arc) → weight (without_low a) ≤ 2 * weight a
net_weight a =
    elim (cases_eq a.src a.dst) [
      | inl e ↦ rw (width_loop a e) (omega arith)
      | inr n ↦
          let most : max 0 (unsigned_abs (a.cap -ℤ a.low)) ≡ unsigned_abs (a.cap -ℤ a.low) = omega arith in
          let same = ap (λ m. unsigned_abs a.cost * m) most in
          rw (width_plain a n) (omega (arith, same, width_weight a))
    ]

-- ---- the supplies that are left

pub lows_within : (arcs : List Arc) → All (IsArcWithinLimits limits) arcs → IsWithinBounds arcs (lows arcs)
lows_within [] h = tt
lows_within (a ∷ arcs) h =
    let ordered = (All-head (IsArcWithinLimits limits) a arcs h).ordered in
    ((omega (arith, ints), ordered), lows_within arcs (All-tail (IsArcWithinLimits limits) a arcs h))

-- what the lows of the first arcs leave of a supply
abbrev pub left_after : Network → ℕ → ℕ → ℤ
left_after g i v = at_node g.supplies v -ℤ net (take i g.arcs) (lows g.arcs) v

pub left_small : (g : Network) (i v : ℕ) → IsWellFormed limits g → IsNode (node_count g) v → i ≤ length g.arcs → IsUpTo supply_limit (left_after g i v)
left_small g i v ok hv h =
    let lows = net_up_to g.arcs (lows g.arcs) i v ok.within.arcs ok.arcs (lows_within g.arcs ok.within.arcs) h in
    let supply : IsUpTo limits.supply (at_node g.supplies v) = ok.within.supplies (v - 1) (pos 0) (omega arith) in
    omega (arith, ints, lows, supply)

pub left_all : (g : Network) (v : ℕ) → left_after g (length g.arcs) v ≡ supply_left g v
left_all g v = ap (λ (arcs : List Arc). at_node g.supplies v -ℤ net arcs (lows g.arcs) v) (take-length g.arcs)

pub left_none : (g : Network) (v : ℕ) → left_after g 0 v ≡ at_node g.supplies v
left_none g v = omega (arith, ints)

-- one arc more
pub left_more : (g : Network) (i v : ℕ) (a : Arc) → i < length g.arcs → get_or g.arcs i no_arc ≡ a
    → left_after g (i + 1) v ≡ left_after g i v -ℤ when (eqb a.src v) a.low +ℤ when (eqb a.dst v) a.low
left_more g i v a h e =
    let more = net_more g.arcs (lows g.arcs) i no_arc (pos 0) v h (omega (arith, length-map g.arcs (λ (b : Arc). b.low))) in
    let low : get_or (lows g.arcs) i (pos 0) ≡ (get_or g.arcs i no_arc).low = get_or-map (λ (b : Arc). b.low) g.arcs i no_arc (pos 0) h in
    let at : net (take (i + 1) g.arcs) (lows g.arcs) v ≡ net (take i g.arcs) (lows g.arcs) v +ℤ when (eqb a.src v) a.low -ℤ when (eqb a.dst v) a.low =
    rw (low, e) at more in
    omega (arith, ints, at)

-- the supplies as a list
pub left_list : (g : Network) (left : List ℤ) → length left ≡ node_count g → ((v : ℕ) → IsNode (node_count g) v → at_node left v ≡ supply_left g v)
    → left ≡ map (supply_left g) (range_with_len 1 (node_count g))
left_list g left n each =
    let count = length-map-range_with_len (supply_left g) 1 (node_count g) in
    ext_get_or (pos 0) left (map (supply_left g) (range_with_len 1 (node_count g))) (n ∙ sym count)
    (λ i h.
    let back : i + 1 - 1 ≡ i = omega arith in
    let e = subst (λ j. get_or left j (pos 0) ≡ supply_left g (i + 1)) back (each (i + 1) (omega (arith, h, n))) in
    e ∙ sym (get_or-map-range_with_len (supply_left g) 1 (node_count g) i (i + 1) (pos 0) (omega (arith, h, n)) (omega arith)))

-- the supply of a node of the net
pub net_supply : (g : Network) (v : ℕ) → IsNode (node_count g) v → at_node (map (supply_left g) (range_with_len 1 (node_count g))) v ≡ supply_left g v
net_supply g v h =
    get_or-map-range_with_len (supply_left g) 1 (node_count g) (v - 1) v (pos 0) (omega arith) (omega arith)

-- ---- an assignment keeps its supplies and its arcs

abbrev LowZero : Arc → Type 0
LowZero a = a.low ≡ pos 0

no_lows : (t : Arc → ℤ → ℤ) → ((a : Arc) → t a (pos 0) ≡ pos 0) → (arcs : List Arc) → All LowZero arcs → flow_sum t arcs (lows arcs) ≡ pos 0
no_lows t z [] h = refl
no_lows t z (a ∷ arcs) h =
    let low = All-head LowZero a arcs h in
    let here = ap (t a) low in
    omega (arith, ints, here, z a, no_lows t z arcs (All-tail LowZero a arcs h))

kept_supply : (g : Network) (v : ℕ) → All LowZero g.arcs → supply_left g v ≡ at_node g.supplies v
kept_supply g v h =
    let out = no_lows (λ a f. when (eqb a.src v) f) (λ a. when-zero (eqb a.src v)) g.arcs h in
    let into = no_lows (λ a f. when (eqb a.dst v) f) (λ a. when-zero (eqb a.dst v)) g.arcs h in
    omega (arith, ints, out, into)

kept_supplies : (g : Network) → All LowZero g.arcs → map (supply_left g) (range_with_len 1 (node_count g)) ≡ g.supplies
kept_supplies g h = sym (left_list g g.supplies refl (λ v hv. sym (kept_supply g v h)))

pairing_kept : (supplies : List ℤ) (a : Arc) → IsPairing supplies a → IsPairing supplies (without_low a)
pairing_kept supplies a h =
    let other : a.src ≢ a.dst = λ e. let row = h.from_row in let column = h.to_column in let same = ap (at_node supplies) e in
    absurd (omega (arith, ints, row, column, same)) in
    let low = h.low_is in
    let cap = h.cap_is in
    record {
      from_row = h.from_row;
      to_column = h.to_column;
      low_is = refl;
      cap_is = omega (arith, ints, width_plain a other, low, cap);
    }

-- where it is stored without bounds, it is its own net
links_kept : (supplies : List ℤ) (links : List Link) → All (IsPairing supplies) (map unit_arc links)
    → stored_arcs links [] ≡ map without_low (map unit_arc links)
links_kept supplies [] h = refl
links_kept supplies (link ∷ links) h =
    let one = (pairing_kept supplies (unit_arc link) (All-head (IsPairing supplies) (unit_arc link) (map unit_arc links) h)).cap_is in
    let rest = links_kept supplies links (All-tail (IsPairing supplies) (unit_arc link) (map unit_arc links) h) in
    ap (λ (w : ℤ). stored_arc link w ∷ stored_arcs links []) (sym one) ∙ ap (λ (arcs : List Arc). without_low (unit_arc link) ∷ arcs) rest

pub its_own_net : (g : Network) (links : List Link) → IsWellFormed limits g → g.problem ≡ Asn → g.arcs ≡ map unit_arc links → IsItsOwnNet g links
its_own_net g links ok asn e =
    let pairs : IsAssignment g = subst (λ (p : Problem). OnAssignment p (IsAssignment g)) asn ok.assignment in
    record {
      arcs = links_kept g.supplies links (subst (All (IsPairing g.supplies)) e pairs.each_arc) ∙ ap (map without_low) (sym e);
      supplies = sym (kept_supplies g (λ k d l. (pairs.each_arc k d l).low_is));
    }

assignment_kept : (g : Network) → IsAssignment g → IsAssignment (net_of g)
unfolding net_of
assignment_kept g h =
    let none : All LowZero g.arcs = λ k d l. (h.each_arc k d l).low_is in
    let same = kept_supplies g none in
    record {
      each_supply = rw same h.each_supply;
      each_arc = rw same (All-map (IsPairing g.supplies) without_low g.arcs (λ k d l. pairing_kept g.supplies (get_or g.arcs k d) (h.each_arc k d l)));
    }

on_assignment_kept : (p : Problem) (g : Network) → OnAssignment p (IsAssignment g) → OnAssignment p (IsAssignment (net_of g))
on_assignment_kept Min g h = tt
on_assignment_kept Asn g h = assignment_kept g h

-- ---- the net of an instance keeps what every net keeps

net_supplies_small : (g : Network) → IsWellFormed limits g → All (IsUpTo supply_limit) (map (supply_left g) (range_with_len 1 (node_count g)))
net_supplies_small g ok k d h =
    let n = length-map-range_with_len (supply_left g) 1 (node_count g) in
    let at = get_or-map-range_with_len (supply_left g) 1 (node_count g) k (k + 1) d (omega (arith, h, n)) (omega arith) in
    rw at (rw (left_all g (k + 1)) at (left_small g (length g.arcs) (k + 1) ok (omega (arith, h, n)) (omega arith)))

net_total : (g : Network) → sum (map weight g.arcs) ≤ total_limit → sum (map weight (map without_low g.arcs)) ≤ net_total_limit
net_total g h =
    let le = sum-weights-le (λ a. weight (without_low a)) weight 2 net_weight g.arcs in
    let same = ap sum (map-map weight without_low g.arcs) in
    omega (arith, le, same, h)

pub net_of_ok : (g : Network) → IsWellFormed limits g → IsNet (net_of g)
unfolding net_of
net_of_ok g ok =
    let n = length-map-range_with_len (supply_left g) 1 (node_count g) in
    let m = length-map g.arcs without_low in
    record {
      nodes = omega (arith, n, ok.nodes);
      arcs = omega (arith, m, ok.arcs);
      ends = rw n (All-map (HasEnds (node_count g)) without_low g.arcs (λ k d l. let e = ok.ends k d l in
          record { src_is_node = e.src_is_node; dst_is_node = e.dst_is_node }));
      each_arc = All-map IsNetArc without_low g.arcs (λ k d l. net_arc_ok (get_or g.arcs k d) (ok.within.arcs k d l));
      supplies = net_supplies_small g ok;
      total = net_total g ok.within.total;
      assignment = on_assignment_kept g.problem g ok.assignment;
    }

pub net_of-node_count : (g : Network) → node_count (net_of g) ≡ node_count g
unfolding net_of
net_of-node_count g = length-map-range_with_len (supply_left g) 1 (node_count g)

-- ---- the loops

-- what is left of the supplies, by the lows of the first arcs
pub record IsLeft (g : Network) (i : ℕ) (left : List ℤ) : Type 0 where
  pub count : length left ≡ node_count g
  pub each : (v : ℕ) → IsNode (node_count g) v → at_node left v ≡ left_after g i v

pub left_start : (g : Network) (left : List ℤ) → left ≡ g.supplies → IsLeft g 0 left
left_start g left e =
    rw e (record { count = refl; each = λ v h. sym (left_none g v) })

pub left_next : (g : Network) (i : ℕ) (a : Arc) (left left' : List ℤ) → IsLeft g i left → i < length g.arcs → slice_get g.arcs (i + 1 - 1) ≡ Some a
    → length left' ≡ length left → ((v : ℕ) → IsNode (length left) v → at_node left' v ≡ at_node left v -ℤ when (eqb a.src v) a.low +ℤ when
    (eqb a.dst v) a.low) → IsLeft g (i + 1) left'
left_next g i a left left' old h is n each =
    let back : i + 1 - 1 ≡ i = omega arith in
    let e = get_or_from_slice_get g.arcs i a no_arc (rw back at is) in
    record {
      count = n ∙ old.count;
      each = λ v hv. let moved = each v (omega (arith, hv, old.count)) in omega (arith, ints, moved, old.each v hv, left_more g i v a h e);
    }

pub left_end : (g : Network) (i : ℕ) (left : List ℤ) → IsLeft g i left → i ≡ length g.arcs → left ≡ map (supply_left g) (range_with_len 1 (node_count g))
left_end g i left old e =
    left_list g left old.count (λ v h. old.each v h ∙ ap (λ j. left_after g j v) e ∙ left_all g v)

pub left_entry_small : (g : Network) (i v : ℕ) (left : List ℤ) → IsWellFormed limits g → IsLeft g i left → i ≤ length g.arcs → IsNode (length left) v
    → IsUpTo surplus_reach (at_node left v)
left_entry_small g i v left ok old h hv =
    let node : IsNode (node_count g) v = omega (arith, hv, old.count) in
    omega (arith, ints, old.each v node, left_small g i v ok node h)

-- an arc that an instance gives
pub record IsArcOf (g : Network) (i : ℕ) (a : Arc) : Type 0 where
  pub is : get_or g.arcs i no_arc ≡ a
  pub ends : HasEnds (node_count g) a
  pub within : IsArcWithinLimits limits a

pub arc_of : (g : Network) (i : ℕ) (a : Arc) → IsWellFormed limits g → i < length g.arcs → slice_get g.arcs (i + 1 - 1) ≡ Some a → IsArcOf g i a
arc_of g i a ok h is =
    let back : i + 1 - 1 ≡ i = omega arith in
    let e = get_or_from_slice_get g.arcs i a no_arc (rw back at is) in
    record {
      is = e;
      ends = subst (HasEnds (node_count g)) e (ok.ends i no_arc h);
      within = subst (IsArcWithinLimits limits) e (ok.within.arcs i no_arc h);
    }

pub stored_is : (a : Arc) (src dst : ℕ) (width cost : ℤ) → src ≡ a.src → dst ≡ a.dst → width ≡ width_of a → cost ≡ a.cost
    → stored_arc (record { src = src; dst = dst; cost = cost }) width ≡ without_low a
stored_is a src dst width cost es ed ew ec = rw (es, ed, ew, ec) refl

-- what is stored is the first arcs without their lows
pub record AreStored (g : Network) (i : ℕ) (links : List Link) (widths : List ℤ) : Type 0 where
  pub arcs : stored_arcs links widths ≡ map without_low (take i g.arcs)
  pub widths_fit : length widths ≤ i

pub stored_next : (g : Network) (i : ℕ) (a : Arc) (link : Link) (width : ℤ) (links links' : List Link) (widths widths' : List ℤ) → AreStored g i links widths
    → i < length g.arcs → get_or g.arcs i no_arc ≡ a → stored_arc link width ≡ without_low a → links' ≡ links ++ link ∷ [] → GainsWidth widths i width widths'
    → AreStored g (i + 1) links' widths'
stored_next g i a link width links links' widths widths' old h e is el gains =
    let count : length links ≡ i = sym (length-stored_arcs links widths) ∙ ap length old.arcs ∙ length-map (take i g.arcs) without_low
    ∙ length-take-le i g.arcs (omega (arith, h)) in
    record {
      arcs = ap (λ ls. stored_arcs ls widths') el ∙ stored_arcs_more links link widths widths' width
          (subst (λ (n : ℕ). GainsWidth widths n width widths') (sym count) gains)
          ∙ ap (λ (xs : List Arc). xs ++ stored_arc link width ∷ []) old.arcs
          ∙ ap (λ (x : Arc). map without_low (take i g.arcs) ++ x ∷ []) (is ∙ ap without_low (sym e))
          ∙ sym (map_more without_low g.arcs i no_arc h);
      widths_fit = gains.fits;
    }

pub net_ends : (g : Network) → IsWellFormed limits g → All (HasEnds (node_count g)) (map without_low g.arcs)
net_ends g ok =
    All-map (HasEnds (node_count g)) without_low g.arcs (λ k d l. let e = ok.ends k d l in record { src_is_node = e.src_is_node; dst_is_node = e.dst_is_node })

pub links_count : (g : Network) (links : List Link) (widths : List ℤ) → stored_arcs links widths ≡ map without_low g.arcs → length links ≡ length g.arcs
links_count g links widths e = sym (length-stored_arcs links widths) ∙ ap length e ∙ length-map g.arcs without_low

pub links_join : (g : Network) (links : List Link) (widths : List ℤ) → IsWellFormed limits g → stored_arcs links widths ≡ map without_low g.arcs
    → JoinNodes (node_count g) links
links_join g links widths ok e i d h =
    let count = links_count g links widths e in
    let at : get_or (map without_low g.arcs) i no_arc ≡ stored_arc (get_or links i d) (width_at widths i) = ap (λ (xs : List Arc). get_or xs i no_arc) (sym e)
    ∙ get_or-stored_arcs links widths i d no_arc h in
    let ends = subst (HasEnds (node_count g)) at (net_ends g ok i no_arc (omega (arith, h, count, length-map g.arcs without_low))) in
    (ends.src_is_node, ends.dst_is_node)

-- what is stored is the net
pub net_is : (g : Network) (problem : Problem) (links : List Link) (widths supplies : List ℤ) → problem ≡ g.problem
    → stored_arcs links widths ≡ map without_low g.arcs → supplies ≡ map (supply_left g) (range_with_len 1 (node_count g))
    → stored_net problem links widths supplies ≡ net_of g
unfolding net_of
net_is g problem links widths supplies ep ea es = rw (ep, ea, es) refl
