-- The star of the artificial arcs is a basis, and so it is stored.
use Rattle.std.proofs.Common.{◌≡◌, ◌≢◌, ℕ, zero, suc, ◌+◌, ◌-◌, ◌<◌, inl, inr, false, eqb, List, [], length, map, take, drop, replicate, get_or, refl, sym, ap}
use Rattle.std.proofs.Common.{◌∙◌, arith, subst, ℤ, pos, neg_ℤ, ◌+ℤ◌, ◌-ℤ◌, length-append, ◌≤◌, ◌++◌, Bool, cond, ◌∷◌, true}
use Rattle.std.specs.Prelude.{unsigned_abs, int_le, if◌then◌else◌, int_lt, sum}
use Rattle.std.specs.List.{All, range_with_len}
use Rattle.std.proofs.lemmas.Bool.{cases_Bool, eq-eqb, cases_lt, cond-true, cond-false}
use Rattle.std.proofs.lemmas.Bool.Decides.{nat_tests}
use Rattle.std.proofs.lemmas.Int.{ints}
use Rattle.std.proofs.lemmas.List.{get_or-replicate, get_or-take, get_or_append_left, get_or-append-add, length-drop, length-replicate, length-take-le}
use Rattle.std.proofs.lemmas.List.{ext_get_or}
use Rattle.std.proofs.lemmas.List.Elements.{All-nil, All-cons}
use Rattle.std.proofs.lemmas.List.FromFn.{get_or-map-range_with_len, length-map-range_with_len, map-range_with_len_more}
use Rattle.mcf_flows.specs.declared.arc.Arc.{Arc}
use Rattle.mcf_flows.specs.Flow.{net}
use Rattle.mcf_flows.specs.Network.{Network, IsNode, at_node, flow_sum, node_count, when, IsArcNumber}
use Rattle.mcf_flows.specs.WellFormed.{weight}
use Rattle.mcf_flows.proofs.Bounds.{sum-weights}
use Rattle.mcf_network.specs.Nets.{IsNet, IsNetArc}
use Rattle.mcf_network.specs.Residual.{arc_at}
use Rattle.mcf_network.specs.States.{HasNoSurplus}
use Rattle.mcf_network.proofs.ArcLaws.{net_arc_at}
use Rattle.mcf_network.proofs.StateLaws.{when-other}
use Rattle.mcf_tree.specs.SpanningTree.{IsSpanning, IsStar, depth_of, label_of, parent_of, size_of}
use Rattle.mcf_basis.specs.declared.offer.ArcOffer.{ArcOffer}
use Rattle.mcf_basis.specs.declared.residuals.Residuals.{Residuals}
use Rattle.mcf_basis.specs.Artificial.{IsLabel, artificial_arc, is_sender, with_artificial, artificial_cost}
use Rattle.mcf_basis.specs.Bases.{CanHold, HasTreeArc, HasTreePrices, IsAtBound, IsBasis}
use Rattle.mcf_basis.specs.Private.Layouts.{Layout, IsLaidOut, IsOffer, IsStarTable, amount_in, amount_outside, artificial_residuals, basis_in, forward_offer}
use Rattle.mcf_basis.specs.Private.Layouts.{no_offer, no_residuals, offer_at}
use Rattle.mcf_basis.specs.Private.Layouts.IsOffer.{closed, forward}
use Rattle.mcf_basis.specs.Starts.{start_amounts, start_price, start_prices, IsStart}
use Rattle.mcf_basis.specs.Structures.{TreeStructure, CanTake, IsInTree, carried, full_state, leaving, price_at, reduced_at, up_path}
use Rattle.mcf_basis.specs.Structures.Joins.{out_of, into}
use Rattle.mcf_basis.proofs.Labels.{added_arcs, arc_at_place, net_of_zeros, read_added, split_net, added_arc, added_label, label_case, label_count, sender_ends}
use Rattle.mcf_basis.proofs.Labels.{taker_ends}
use Rattle.mcf_basis.proofs.Labels.LabelCase.{own, added}
use Rattle.mcf_basis.proofs.LastBases.{node_count_added, supply_added, above_zero, not_above_zero}
use Rattle.mcf_basis.proofs.TreeFlows.{single_term}
use Rattle.mcf_basis.proofs.Views.{amount_added, amount_none}

-- what a node sends or takes is its supply
signed_size : (x : ℤ) → cond (int_le (pos 0) x) (pos (unsigned_abs x)) (neg_ℤ (pos (unsigned_abs x))) ≡ x
signed_size x = grind (arith, ints)

-- along an artificial arc the price falls by its cost c
price_falls : (sends : Bool) (v : ℕ) (price : ℕ → ℤ) (c : ℤ) → price 0 ≡ pos 0 → price v ≡ cond sends c (neg_ℤ c)
    → c -ℤ price (cond sends v 0) +ℤ price (cond sends 0 v) ≡ pos 0
price_falls true v price c root at = omega (arith, ints, root, at)
price_falls false v price c root at = omega (arith, ints, root, at)

-- an artificial arc has no end at another node
apart_ends : (g : Network) (u v : ℕ) → 0 < v → u ≢ v → ((artificial_arc g u).src ≢ v) × ((artificial_arc g u).dst ≢ v)
apart_ends g u v up ne = (λ q. grind (arith, q, up, ne), λ q. grind (arith, q, up, ne))

-- what the artificial arcs carry at the start
abbrev pub star_amount : Network → ℕ → ℤ
star_amount g u = pos (unsigned_abs (at_node g.supplies u))

abbrev star_flow : Network → List ℤ
star_flow g = map (λ u. pos (unsigned_abs (at_node g.supplies u))) (range_with_len 1 (node_count g))

-- of the artificial arcs one alone is at v
module _ (g : Network) (flow : List ℤ) (count : length flow ≡ node_count g) (v : ℕ) (h : IsNode (node_count g) v) where
  at_end : (end : Arc → ℕ) → ((u : ℕ) → u ≢ v → end (artificial_arc g u) ≢ v) →
      flow_sum (λ a f. when (eqb (end a) v) f) (added_arcs g) flow ≡ when (eqb (end (artificial_arc g v)) v) (get_or flow (v - 1) (pos 0))
  at_end end apart =
      let n = length-map-range_with_len (artificial_arc g) 1 (node_count g) in
      let back : v - 1 + 1 ≡ v = omega arith in
      single_term (λ a f. when (eqb (end a) v) f) (added_arcs g) flow (v - 1) (count ∙ sym n) (omega (arith, n, h))
      (λ i l ne. (let m : i < node_count g = omega (arith, n, l) in
      subst (λ a. when (eqb (end a) v) (get_or flow i (pos 0)) ≡ pos 0) (sym (arc_at_place g i m))
      (when-other (end (artificial_arc g (i + 1))) v _ (λ q. apart (i + 1) (λ e. ne (omega arith)) (sym q)))))
      ∙ ap (λ a. when (eqb (end a) v) (get_or flow (v - 1) (pos 0))) (arc_at_place g (v - 1) (omega arith) ∙ ap (artificial_arc g) back)

  -- a sender sends away along it, a taker takes
  pub added_net : net (added_arcs g) flow v ≡ cond (is_sender g v) (get_or flow (v - 1) (pos 0)) (neg_ℤ (get_or flow (v - 1) (pos 0)))
  added_net =
      let out = at_end (λ a. a.src) (λ u ne. (apart_ends g u v h.0 ne).0) in
      let inn = at_end (λ a. a.dst) (λ u ne. (apart_ends g u v h.0 ne).1) in
      grind (arith, ints, nat_tests, out, inn, h)

-- by their places among the amounts of the start
pub start_own : (g : Network) (i : ℕ) → i < length g.arcs → get_or (start_amounts g) i (pos 0) ≡ pos 0
start_own g i h =
    let n = length-replicate (length g.arcs) (pos 0) in
    get_or_append_left (replicate (length g.arcs) (pos 0)) (star_flow g) (pos 0) i (omega (arith, n, h))
    ∙ get_or-replicate (length g.arcs) i (pos 0) (pos 0) h

pub start_added : (g : Network) (v i : ℕ) → IsNode (node_count g) v → i + 1 ≡ length g.arcs + v
    → get_or (start_amounts g) i (pos 0) ≡ star_amount g v
start_added g v i h e =
    let n = length-replicate (length g.arcs) (pos 0) in
    let place : i ≡ length (replicate (length g.arcs) (pos 0)) + (v - 1) = omega (arith, n, e, h) in
    ap (λ j. get_or (start_amounts g) j (pos 0)) place
    ∙ (get_or-append-add (replicate (length g.arcs) (pos 0)) (star_flow g) (v - 1) (pos 0)
    ∙ get_or-map-range_with_len (star_amount g) 1 (node_count g) (v - 1) v (pos 0) (omega arith) (omega arith))

pub start_count : (g : Network) → length (start_amounts g) ≡ length g.arcs + node_count g
start_count g =
    let own = length-replicate (length g.arcs) (pos 0) in
    let added = length-map-range_with_len (star_amount g) 1 (node_count g) in
    omega (arith, length-append (replicate (length g.arcs) (pos 0)) (star_flow g), own, added)

-- the star with these amounts and prices is a basis
module _ (b : TreeStructure) (ok : IsNet b.net) (spanning : IsSpanning b.tree) (star : IsStar b.tree (node_count b.net) (length b.net.arcs))
    (amounts : b.amounts ≡ start_amounts b.net) (prices : b.prices ≡ start_prices b.net) where
  star_label : (v : ℕ) → IsNode (node_count b.net) v → label_of b.tree v ≡ length b.net.arcs + v
  star_label v h = star.label v (omega arith) h.1

  star_parent : (v : ℕ) → IsNode (node_count b.net) v → parent_of b.tree v ≡ 0
  star_parent v h = star.parent v h.1

  star_arc : (v : ℕ) → IsNode (node_count b.net) v → arc_at (with_artificial b.net) (label_of b.tree v) ≡ artificial_arc b.net v
  star_arc v h = added_arc b.net v (label_of b.tree v) h (star_label v h)

  own_empty : (i : ℕ) → i < length b.net.arcs → get_or b.amounts i (pos 0) ≡ pos 0
  own_empty i h = ap (λ xs. get_or xs i (pos 0)) amounts ∙ start_own b.net i h

  added_amount : (v label : ℕ) → IsNode (node_count b.net) v → label ≡ length b.net.arcs + v → carried b label ≡ star_amount b.net v
  added_amount v label h e = ap (λ xs. get_or xs (label - 1) (pos 0)) amounts ∙ start_added b.net v (label - 1) h (omega (arith, e, h))

  node_start_price : (v : ℕ) → IsNode (node_count b.net) v → price_at b v ≡ start_price b.net v
  node_start_price v h = ap (λ xs. get_or xs v (pos 0)) prices ∙ later v h
    where
      later : (v : ℕ) → IsNode (node_count b.net) v → get_or (start_prices b.net) v (pos 0) ≡ start_price b.net v
      later zero h = absurd (omega arith)
      later (suc i) h = get_or-map-range_with_len (start_price b.net) 1 (node_count b.net) i (suc i) (pos 0) (omega arith) (omega arith)

  root_start_price : price_at b 0 ≡ pos 0
  root_start_price = ap (λ xs. get_or xs 0 (pos 0)) prices

  star_joins : (v : ℕ) → IsNode (node_count b.net) v → HasTreeArc b v
  star_joins v h =
      let arc = star_arc v h in
      let up = star_parent v h in
      record {
        label = subst (IsLabel b.net) (sym (star_label v h)) (added_label b.net v h);
        joins = elim (cases_Bool (is_sender b.net v)) [
          | inl e ↦ out_of (ap (λ a. a.src) arc ∙ (sender_ends b.net v e).0)
              (ap (λ a. a.dst) arc ∙ ((sender_ends b.net v e).1 ∙ sym up))
          | inr e ↦ into (ap (λ a. a.src) arc ∙ ((taker_ends b.net v e).0 ∙ sym up))
              (ap (λ a. a.dst) arc ∙ (taker_ends b.net v e).1)
        ];
      }

  star_balanced : (v : ℕ) → IsNode (node_count b.net) v → reduced_at b (label_of b.tree v) ≡ pos 0
  star_balanced v h =
      ap (λ a. a.cost -ℤ price_at b a.src +ℤ price_at b a.dst) (star_arc v h)
      ∙ price_falls (is_sender b.net v) v (price_at b) (pos (artificial_cost b.net)) root_start_price (node_start_price v h)

  star_prices : HasTreePrices b
  star_prices = record {
    one_per_node = (let n = length-map-range_with_len (start_price b.net) 1 (node_count b.net) in let l : length b.prices ≡ length (start_prices b.net) =
        ap length prices in omega (arith, n, l));
    root = root_start_price;
    balanced = star_balanced;
  }

  star_amount_count : length b.amounts ≡ length (with_artificial b.net).arcs
  star_amount_count = ap length amounts ∙ (start_count b.net ∙ sym (label_count b.net))

  star_held : (label : ℕ) → IsLabel b.net label → CanHold b.net label (carried b label)
  star_held label h = elim (label_case b.net label h) [
    | own k ↦ (let z = own_empty (label - 1) (omega (arith, k)) in
        let a : IsNetArc (arc_at b.net label) = net_arc_at b.net label ok k in
        record { low = omega (arith, ints, z); high = λ l. omega (arith, ints, z, a.width_low) })
    | added v node e ↦ (let x = added_amount v label node e in
        record { low = omega (arith, ints, x); high = λ l. absurd (omega (arith, e, l, node)) })
  ]

  star_bounds : (label : ℕ) → IsLabel b.net label → ¬ IsInTree b label → IsAtBound b label
  star_bounds label h out = elim (label_case b.net label h) [
    | own k ↦ inl (own_empty (label - 1) (omega (arith, k)))
    | added v node e ↦ absurd (out (record { node = v; is_node = node; labelled = star_label v node ∙ sym e }))
  ]

  star_no_surplus : HasNoSurplus (full_state b)
  star_no_surplus v h =
      let node : IsNode (node_count b.net) v = subst (λ n. IsNode n v) (sym (node_count_added b.net)) h in
      let size : length b.amounts ≡ length b.net.arcs + node_count b.net = star_amount_count ∙ label_count b.net in
      let short = length-take-le (length b.net.arcs) b.amounts (omega arith) in
      let rest = length-drop (length b.net.arcs) b.amounts in
      let count : length (drop (length b.net.arcs) b.amounts) ≡ node_count b.net = omega (arith, rest, size) in
      let split = split_net b.net b.amounts v (omega arith) in
      let none = net_of_zeros b.net.arcs (take (length b.net.arcs) b.amounts) v (λ i l. (let m : i < length b.net.arcs = omega (arith, l, short) in
      get_or-take (length b.net.arcs) b.amounts i (pos 0) m ∙ own_empty i m)) in
      let read = read_added b (v - 1) v (omega arith) ∙ added_amount v (length b.net.arcs + v) node refl in
      let away = added_net b.net (drop (length b.net.arcs) b.amounts) count v node ∙ (ap (λ z. cond (is_sender b.net v) z (neg_ℤ z)) read
      ∙ signed_size (at_node b.net.supplies v)) in
      omega (arith, ints, split, none, away, supply_added b.net v)

  star_strong : (v : ℕ) → IsNode (node_count b.net) v → All (λ r. CanTake b r (pos 1)) (up_path b (depth_of b.tree v) v)
  star_strong v h =
      let inside : v < size_of b.tree = (let size = star.size in omega (arith, size, h)) in
      let top : depth_of b.tree (parent_of b.tree v) ≡ 0 = ap (depth_of b.tree) (star_parent v h) ∙ spanning.rooted.root in
      let one : depth_of b.tree v ≡ 1 = omega (arith, spanning.rooted.falls v (omega arith) inside, top) in
      subst (λ d. All (λ r. CanTake b r (pos 1)) (up_path b d v)) (sym one)
      (All-cons (λ r. CanTake b r (pos 1)) (leaving b.net (label_of b.tree v) v) [] room (All-nil (λ r. CanTake b r (pos 1))))
    where
      room : CanTake b (leaving b.net (label_of b.tree v) v) (pos 1)
      room = record {
        forward = λ f l. absurd (let e = star_label v h in omega (arith, e, l, h));
        backward = λ back. (let amount = added_amount v (label_of b.tree v) h (star_label v h) in
            grind (arith, ints, nat_tests, ap (λ a. a.src) (star_arc v h), back, amount));
      }

  pub star_is_basis : IsBasis b
  star_is_basis = record {
    of_net = ok;
    spanning = spanning;
    size = star.size;
    tree_arcs = star_joins;
    flow = record { of_net = refl; one_per_label = star_amount_count; within_bounds = star_held; no_surplus = star_no_surplus };
    at_bounds = star_bounds;
    prices = star_prices;
    strong = star_strong;
  }

-- ---- lists that are made entry by entry

pub made_more : {X : Type 0} (f : ℕ → X) (i : ℕ) (xs ys : List X) (x : X)
    → xs ≡ map f (range_with_len 1 i) → x ≡ f (i + 1) → ys ≡ xs ++ x ∷ [] → ys ≡ map f (range_with_len 1 (i + 1))
made_more f i xs ys x e h p =
    p ∙ (ap (λ zs. zs ++ x ∷ []) e ∙ (ap (λ z. map f (range_with_len 1 i) ++ z ∷ []) h ∙ sym (map-range_with_len_more f 1 i (i + 1) (omega arith))))

-- behind an entry for the root
pub made_behind : {X : Type 0} (y : X) (f : ℕ → X) (i : ℕ) (xs ys : List X) (x : X)
    → xs ≡ y ∷ map f (range_with_len 1 i) → x ≡ f (i + 1) → ys ≡ xs ++ x ∷ [] → ys ≡ y ∷ map f (range_with_len 1 (i + 1))
made_behind y f i xs ys x e h p =
    p
    ∙ (ap (λ zs. zs ++ x ∷ []) e
    ∙ (ap (λ z. y ∷ map f (range_with_len 1 i) ++ z ∷ []) h
    ∙ ap (λ zs. y ∷ zs) (sym (map-range_with_len_more f 1 i (i + 1) (omega arith)))))

-- ---- the cost of an artificial arc

pub weight_next : (arcs : List Arc) (i : ℕ) (d : Arc) → i < length arcs
    → sum (map weight (take (i + 1) arcs)) ≡ sum (map weight (take i arcs)) + weight (get_or arcs i d)
weight_next [] i d h = absurd (omega arith)
weight_next (a ∷ arcs) zero d h = omega (arith, sum-weights weight a [])
weight_next (a ∷ arcs) (suc i) d h =
    let place : suc i + 1 ≡ suc (i + 1) = omega arith in
    let next : sum (map weight (a ∷ take (i + 1) arcs)) ≡ sum (map weight (a ∷ take i arcs)) + weight (get_or arcs i d) =
    omega (arith, sum-weights weight a (take (i + 1) arcs), sum-weights weight a (take i arcs), weight_next arcs i d (omega arith)) in
    ap (λ j. sum (map weight (take j (a ∷ arcs)))) place ∙ next

pub weight_part : (arcs : List Arc) (i : ℕ) → sum (map weight (take i arcs)) ≤ sum (map weight arcs)
weight_part [] zero = omega arith
weight_part [] (suc i) = omega arith
weight_part (a ∷ arcs) zero = omega arith
weight_part (a ∷ arcs) (suc i) =
    omega (arith, sum-weights weight a (take i arcs), sum-weights weight a arcs, weight_part arcs i)

-- ---- the greatest cost, and how far prices reach

-- ---- the star, as it is stored

abbrev pub star_offer : Network → ℕ → ArcOffer
star_offer g k = if int_lt (pos 0) (arc_at g k).cap then forward_offer g k else no_offer

abbrev pub star_residuals : Network → ℕ → Residuals
star_residuals g v = artificial_residuals (is_sender g v) (unsigned_abs (at_node g.supplies v))

pub record IsStarStored (l : Layout) : Type 0 where
  pub of_net : IsNet l.net
  pub star : IsStar l.tree (node_count l.net) (length l.net.arcs)
  pub spanning : IsSpanning l.tree
  pub offers : l.offers ≡ map (star_offer l.net) (range_with_len 1 (length l.net.arcs))
  pub residuals : l.residuals ≡ no_residuals ∷ map (star_residuals l.net) (range_with_len 1 (node_count l.net))
  pub artificial : l.artificial ≡ pos 0 ∷ map (star_amount l.net) (range_with_len 1 (node_count l.net))
  pub table : IsStarTable l.net l.table
  pub no_pivots : l.pivots ≡ 0

-- a read behind the entry of the root
behind : {X : Type 0} (y d : X) (f : ℕ → X) (n v : ℕ) → IsNode n v → get_or (y ∷ map f (range_with_len 1 n)) v d ≡ f v
behind y d f n zero h = absurd (omega arith)
behind y d f n (suc i) h = get_or-map-range_with_len f 1 n i (suc i) d (omega arith) (omega arith)

module _ (l : Layout) (s : IsStarStored l) where
  label_is : (v : ℕ) → IsNode (node_count l.net) v → label_of l.tree v ≡ length l.net.arcs + v
  label_is v h = s.star.label v (omega arith) h.1

  offer_is : (k : ℕ) → IsArcNumber l.net k → offer_at l k ≡ star_offer l.net k
  offer_is k h =
      ap (λ xs. get_or xs (k - 1) no_offer) s.offers
      ∙ get_or-map-range_with_len (star_offer l.net) 1 (length l.net.arcs) (k - 1) k no_offer (omega arith) (omega arith)

  offer_ok : (k : ℕ) → IsArcNumber l.net k → IsOffer l.net k (offer_at l k)
  offer_ok k h =
      let arc : IsNetArc (arc_at l.net k) = net_arc_at l.net k s.of_net h in
      elim (cases_Bool (int_lt (pos 0) (arc_at l.net k).cap)) [
        | inl e ↦ forward (above_zero (arc_at l.net k).cap e) (offer_is k h ∙ cond-true _ _ _ e)
        | inr e ↦ closed (let high = not_above_zero (arc_at l.net k).cap e in omega (arith, ints, arc.width_low, high)) (offer_is k h ∙ cond-false _ _ _ e)
      ]

  own_amount : (k : ℕ) → IsArcNumber l.net k → amount_outside l k ≡ pos 0
  own_amount k h =
      let arc : IsNetArc (arc_at l.net k) = net_arc_at l.net k s.of_net h in
      elim (cases_Bool (int_lt (pos 0) (arc_at l.net k).cap)) [
        | inl e ↦ cond-true _ _ _ (eq-eqb _ _ (ap (λ o. o.from) (offer_is k h ∙ cond-true _ _ _ e)))
        | inr e ↦ (let high = not_above_zero (arc_at l.net k).cap e in
            let none : (arc_at l.net k).cap ≡ pos 0 = omega (arith, ints, arc.width_low, high) in
            either (eqb (offer_at l k).from (arc_at l.net k).src) (arc_at l.net k).cap none)
      ]
    where
      either : (b : Bool) (x : ℤ) → x ≡ pos 0 → cond b (pos 0) x ≡ pos 0
      either b x e = grind (arith, ints)

  own_part : (k : ℕ) → IsArcNumber l.net k → amount_in l k ≡ pos 0
  own_part k h = amount_none l k h (λ v node e. (let is = label_is v node in omega (arith, is, e, node, h))) ∙ own_amount k h

  added_part : (v label : ℕ) → IsNode (node_count l.net) v → label ≡ length l.net.arcs + v → amount_in l label ≡ star_amount l.net v
  added_part v label h e =
      amount_added l v label h e ∙ (ap (λ xs. get_or xs v (pos 0)) s.artificial ∙ behind (pos 0) (pos 0) (star_amount l.net) (node_count l.net) v h)

  amounts_are : map (amount_in l) (range_with_len 1 (length l.net.arcs + node_count l.net)) ≡ start_amounts l.net
  amounts_are =
      let all = length-map-range_with_len (amount_in l) 1 (length l.net.arcs + node_count l.net) in
      ext_get_or (pos 0) (map (amount_in l) (range_with_len 1 (length l.net.arcs + node_count l.net))) (start_amounts l.net) (all ∙ sym (start_count l.net))
      (λ i h. get_or-map-range_with_len (amount_in l) 1 (length l.net.arcs + node_count l.net) i (i + 1) (pos 0) (omega (arith, all, h)) (omega arith)
      ∙ elim (cases_lt i (length l.net.arcs)) [
        | inl lt ↦ (let k : IsArcNumber l.net (i + 1) = (omega arith, omega arith) in own_part (i + 1) k ∙ sym (start_own l.net i lt))
        | inr ge ↦ (let v : IsNode (node_count l.net) (i + 1 - length l.net.arcs) = (omega arith, omega (arith, all, h)) in
            let e : i + 1 ≡ length l.net.arcs + (i + 1 - length l.net.arcs) = omega (arith, ge) in
            added_part (i + 1 - length l.net.arcs) (i + 1) v e ∙ sym (start_added l.net (i + 1 - length l.net.arcs) i v e))
      ])

  star_basis : IsBasis (basis_in l)
  star_basis = star_is_basis (basis_in l) s.of_net s.spanning s.star amounts_are s.table.prices

  not_own : (v : ℕ) → IsNode (node_count l.net) v → label_of l.tree v ≤ length l.net.arcs → ⊥
  not_own v h le = let e = label_is v h in omega (arith, e, le, h)

  pub star_laid_out : IsLaidOut l
  star_laid_out = record {
    basis = star_basis;
    offers_size = ap length s.offers ∙ length-map-range_with_len (star_offer l.net) 1 (length l.net.arcs);
    residuals_size = (let n = length-map-range_with_len (star_residuals l.net) 1 (node_count l.net) in let e = ap length s.residuals in omega (arith, n, e));
    artificial_size = (let n = length-map-range_with_len (star_amount l.net) 1 (node_count l.net) in let e = ap length s.artificial in omega (arith, n, e));
    offers = offer_ok;
    residuals = λ v h le. absurd (not_own v h le);
    artificial = λ v h e. ap (λ xs. get_or xs v no_residuals) s.residuals ∙ (behind no_residuals no_residuals (star_residuals l.net) (node_count l.net) v h
        ∙ ap (λ x. artificial_residuals (is_sender l.net v) (unsigned_abs x))
        (sym (ap (λ xs. get_or xs v (pos 0)) s.artificial ∙ behind (pos 0) (pos 0) (star_amount l.net) (node_count l.net) v h)));
    fits = s.table.fits;
    gap = s.table.gap;
    wide = λ v h le. absurd (not_own v h le);
  }

  pub star_starts : IsStart l.net (basis_in l)
  star_starts = record { of_net = refl; star = s.star; amounts = amounts_are; prices = s.table.prices; priced = s.table.priced; pivots = s.no_pivots; basis = star_basis }
