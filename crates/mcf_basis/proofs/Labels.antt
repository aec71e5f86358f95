-- The arcs of a net with its artificial arcs, by their labels, and what they carry.
use Rattle.std.proofs.Common.{◌≡◌, ℕ, ◌+◌, ◌-◌, ◌<◌, ◌++◌, ◌⊎◌, inl, inr, true, false, length, map, refl, ap, sym, ◌∙◌, arith, get_or, pos, length-append, suc}
use Rattle.std.proofs.Common.{◌≤◌, Bool, eqb, List, [], ◌∷◌, take, drop, ℤ, ◌+ℤ◌}
use Rattle.std.specs.List.{range_with_len}
use Rattle.std.proofs.lemmas.Bool.{cases_lt}
use Rattle.std.proofs.lemmas.Int.{ints}
use Rattle.std.proofs.lemmas.List.{get_or_append_left, get_or-append-add, get_or-take, get_or-drop, take-append-drop, length-take-le, length-drop}
use Rattle.std.proofs.lemmas.List.FromFn.{length-map-range_with_len, get_or-map-range_with_len}
use Rattle.mcf_flows.specs.declared.arc.Arc.{Arc}
use Rattle.mcf_flows.specs.Flow.{net}
use Rattle.mcf_flows.specs.Network.{Network, IsArcNumber, IsNode, node_count, flow_sum, when}
use Rattle.mcf_flows.proofs.ArcSums.{flow_sum-append}
use Rattle.mcf_network.specs.Nets.{IsNet}
use Rattle.mcf_network.specs.Residual.{no_arc, arc_at}
use Rattle.mcf_network.proofs.ArcLaws.{ends_at}
use Rattle.mcf_network.proofs.StateLaws.{when-zero}
use Rattle.mcf_tree.specs.SpanningTree.{label_of}
use Rattle.mcf_basis.specs.Artificial.{IsLabel, artificial_arc, artificial_cost, is_sender, with_artificial}
use Rattle.mcf_basis.specs.Bases.{IsBasis}
use Rattle.mcf_basis.specs.Laws.{HasNoArtificial}
use Rattle.mcf_basis.specs.Structures.{TreeStructure, IsInTree, Joins, carried, state_of}
use Rattle.mcf_basis.specs.Structures.Joins.{out_of, into}
use Rattle.mcf_basis.proofs.Pushes.{cases_found}

pub label_count : (g : Network) → length (with_artificial g).arcs ≡ length g.arcs + node_count g
unfolding with_artificial
label_count g =
    length-append g.arcs (map (artificial_arc g) (range_with_len 1 (node_count g)))
    ∙ ap (λ k. length g.arcs + k) (length-map-range_with_len (artificial_arc g) 1 (node_count g))

-- an arc of the net by its number
pub own_arc : (g : Network) (k : ℕ) → IsArcNumber g k → arc_at (with_artificial g) k ≡ arc_at g k
unfolding with_artificial
own_arc g k h =
    get_or_append_left g.arcs (map (artificial_arc g) (range_with_len 1 (node_count g))) no_arc (k - 1) (omega arith)

-- an artificial arc by its node
pub added_arc : (g : Network) (v label : ℕ) → IsNode (node_count g) v → label ≡ length g.arcs + v → arc_at (with_artificial g) label ≡ artificial_arc g v
unfolding with_artificial
added_arc g v label h e =
    let place : label - 1 ≡ length g.arcs + (v - 1) = omega arith in
    ap (λ i. get_or (g.arcs ++ map (artificial_arc g) (range_with_len 1 (node_count g))) i no_arc) place
    ∙ (get_or-append-add g.arcs (map (artificial_arc g) (range_with_len 1 (node_count g))) (v - 1) no_arc
    ∙ get_or-map-range_with_len (artificial_arc g) 1 (node_count g) (v - 1) v no_arc (omega arith) (omega arith))

-- a label is that of an arc of the net, or of an artificial arc
pub data LabelCase (g : Network) (label : ℕ) : Type 0 where
  own : IsArcNumber g label → LabelCase g label
  added : (v : ℕ) → IsNode (node_count g) v → label ≡ length g.arcs + v → LabelCase g label

pub label_case : (g : Network) (label : ℕ) → IsLabel g label → LabelCase g label
label_case g label h =
    let count : length (with_artificial g).arcs ≡ length g.arcs + node_count g = label_count g in
    elim (cases_lt (length g.arcs) label) [
      | inl gt ↦ added (label - length g.arcs) (omega arith, omega arith) (omega arith)
      | inr le ↦ own (omega arith, omega arith)
    ]

pub own_label : (g : Network) (k : ℕ) → IsArcNumber g k → IsLabel g k
own_label g k h =
    let count : length (with_artificial g).arcs ≡ length g.arcs + node_count g = label_count g in (omega arith, omega arith)

pub added_label : (g : Network) (v : ℕ) → IsNode (node_count g) v → IsLabel g (length g.arcs + v)
added_label g v h =
    let count : length (with_artificial g).arcs ≡ length g.arcs + node_count g = label_count g in (omega arith, omega arith)

-- an artificial arc leads from its node to the root, or from the root to its node
pub sender_ends : (g : Network) (v : ℕ) → is_sender g v ≡ true → ((artificial_arc g v).src ≡ v) × ((artificial_arc g v).dst ≡ 0)
sender_ends g v e = rw e (refl, refl)

pub taker_ends : (g : Network) (v : ℕ) → is_sender g v ≡ false → ((artificial_arc g v).src ≡ 0) × ((artificial_arc g v).dst ≡ v)
taker_ends g v e = rw e (refl, refl)

-- an arc at the root is artificial
pub root_arc : (g : Network) (label v : ℕ) → IsNet g → IsLabel g label → 0 < v → Joins g label v 0
    → (arc_at (with_artificial g) label).cost ≡ pos (artificial_cost g)
root_arc g label v ok h up joins =
    elim (label_case g label h) [
      | own k ↦ absurd (let same = own_arc g label k in let ends = ends_at g label ok k in
          elim joins [
            | out_of s d ↦ (let e : (arc_at g label).dst ≡ 0 = sym (ap (λ a. a.dst) same) ∙ d in omega (arith, ends.dst_is_node))
            | into s d ↦ (let e : (arc_at g label).src ≡ 0 = sym (ap (λ a. a.src) same) ∙ s in omega (arith, ends.src_is_node))
          ])
      | added u node e ↦ ap (λ a. a.cost) (added_arc g u label node e)
    ]

both_up : (g : Network) (label u v : ℕ) → 0 < u → 0 < v → Joins g label u v
    → (0 < (arc_at (with_artificial g) label).src) × (0 < (arc_at (with_artificial g) label).dst)
both_up g label u v pu pv (out_of a b) = rw (a, b) (pu, pv)
both_up g label u v pu pv (into a b) = rw (a, b) (pv, pu)

-- an arc between two nodes is an arc of the net
pub inner_arc : (g : Network) (label u v : ℕ) → IsLabel g label → 0 < u → 0 < v → Joins g label u v → IsArcNumber g label
inner_arc g label u v h pu pv joins =
    elim (label_case g label h) [
      | own k ↦ k
      | added w node e ↦ absurd (let same = added_arc g w label node e in
          grind (arith, ap (λ a. a.src) same, ap (λ a. a.dst) same, both_up g label u v pu pv joins))
    ]

-- an arc joins its ends in either order
pub joins_back : (g : Network) (label u w : ℕ) → Joins g label u w → Joins g label w u
joins_back g label u w (out_of a b) = into a b
joins_back g label u w (into a b) = out_of a b

-- a label is in the tree, or it isn't
pub cases_in_tree : (b : TreeStructure) (label : ℕ) → IsInTree b label ⊎ (¬ IsInTree b label)
cases_in_tree b label =
    elim (cases_found (λ i. label_of b.tree (i + 1)) (node_count b.net) label) [
      | inl t ↦ inl (let h : t.at < node_count b.net = t.short in record { node = t.at + 1; is_node = (omega arith, omega arith); labelled = t.is })
      | inr none ↦ inr (λ t. (let h = t.is_node in
          let e : t.node - 1 + 1 ≡ t.node = omega arith in
          none (t.node - 1) (omega arith) (ap (label_of b.tree) e ∙ t.labelled)))
    ]

-- the artificial arcs
abbrev pub added_arcs : Network → List Arc
added_arcs g = map (artificial_arc g) (range_with_len 1 (node_count g))

pub arc_at_place : (g : Network) (i : ℕ) → i < node_count g → get_or (added_arcs g) i no_arc ≡ artificial_arc g (i + 1)
arc_at_place g i l = get_or-map-range_with_len (artificial_arc g) 1 (node_count g) i (i + 1) no_arc l (omega arith)

-- a sum over all arcs: that over the arcs of the net, and that over the artificial ones
pub split_sum : (t : Arc → ℤ → ℤ) (g : Network) (amounts : List ℤ) → length g.arcs ≤ length amounts →
    flow_sum t (with_artificial g).arcs amounts
    ≡ flow_sum t g.arcs (take (length g.arcs) amounts) +ℤ flow_sum t (added_arcs g) (drop (length g.arcs) amounts)
unfolding with_artificial
split_sum t g amounts h =
    ap (flow_sum t (g.arcs ++ added_arcs g)) (sym (take-append-drop (length g.arcs) amounts))
    ∙ flow_sum-append t g.arcs (added_arcs g) (take (length g.arcs) amounts) (drop (length g.arcs) amounts) (sym (length-take-le (length g.arcs) amounts h))

-- and so the net at a node
pub split_net : (g : Network) (amounts : List ℤ) (v : ℕ) → length g.arcs ≤ length amounts →
    net (with_artificial g).arcs amounts v ≡ net g.arcs (take (length g.arcs) amounts) v +ℤ net (added_arcs g) (drop (length g.arcs) amounts) v
split_net g amounts v h =
    omega (arith, ints, split_sum (λ a f. when (eqb a.src v) f) g amounts h, split_sum (λ a f. when (eqb a.dst v) f) g amounts h)

-- a sum of terms that are all 0
pub zero_terms : (t : Arc → ℤ → ℤ) (arcs : List Arc) (flow : List ℤ)
    → ((i : ℕ) → i < length arcs → i < length flow → t (get_or arcs i no_arc) (get_or flow i (pos 0)) ≡ pos 0) → flow_sum t arcs flow ≡ pos 0
zero_terms t [] flow each = refl
zero_terms t (a ∷ arcs) [] each = refl
zero_terms t (a ∷ arcs) (f ∷ flow) each =
    let rest : flow_sum t arcs flow ≡ pos 0 = zero_terms t arcs flow (λ i l m. each (suc i) (omega arith) (omega arith)) in
    omega (arith, ints, each 0 (omega arith) (omega arith), rest)

-- and so the net of amounts that are all 0
pub net_of_zeros : (arcs : List Arc) (flow : List ℤ) (v : ℕ) → ((i : ℕ) → i < length flow → get_or flow i (pos 0) ≡ pos 0) → net arcs flow v ≡ pos 0
net_of_zeros arcs flow v each =
    let zero : (t : Bool) (i : ℕ) → i < length flow → when t (get_or flow i (pos 0)) ≡ pos 0 = (λ t i m. ap (when t) (each i m) ∙ when-zero t) in
    let out = zero_terms (λ a f. when (eqb a.src v) f) arcs flow (λ i l m. zero (eqb (get_or arcs i no_arc).src v) i m) in
    let inn = zero_terms (λ a f. when (eqb a.dst v) f) arcs flow (λ i l m. zero (eqb (get_or arcs i no_arc).dst v) i m) in
    omega (arith, ints, out, inn)

-- the amount of the artificial arc of a node
pub read_added : (b : TreeStructure) (i v : ℕ) → v ≡ i + 1 → get_or (drop (length b.net.arcs) b.amounts) i (pos 0) ≡ carried b (length b.net.arcs + v)
read_added b i v e =
    let place : length b.net.arcs + v - 1 ≡ length b.net.arcs + i = omega arith in
    get_or-drop (length b.net.arcs) b.amounts i (pos 0) ∙ sym (ap (λ j. get_or b.amounts j (pos 0)) place)

module _ (b : TreeStructure) (ok : IsBasis b) where
  pub amount_count : length b.amounts ≡ length b.net.arcs + node_count b.net
  amount_count = ok.flow.one_per_label ∙ label_count b.net

  pub own_count : length (state_of b).amounts ≡ length b.net.arcs
  own_count = let e = amount_count in length-take-le (length b.net.arcs) b.amounts (omega (arith, e))

  pub rest_count : length (drop (length b.net.arcs) b.amounts) ≡ node_count b.net
  rest_count = let e = amount_count in let l = length-drop (length b.net.arcs) b.amounts in omega (arith, e, l)

  -- the amount of an arc of the net, in the state and in the basis
  pub own_carried : (k : ℕ) (d : ℤ) → IsArcNumber b.net k → get_or (state_of b).amounts (k - 1) d ≡ get_or b.amounts (k - 1) d
  own_carried k d h = get_or-take (length b.net.arcs) b.amounts (k - 1) d (omega arith)

  -- without artificial amounts the net at a node is that over the arcs of the net
  no_rest : HasNoArtificial b → (i : ℕ) → i < length (drop (length b.net.arcs) b.amounts) → get_or (drop (length b.net.arcs) b.amounts) i (pos 0) ≡ pos 0
  no_rest none i h =
      read_added b i (i + 1) refl ∙ none (i + 1) (omega (arith, rest_count, h), omega (arith, rest_count, h))

  pub net_without : HasNoArtificial b → (v : ℕ) → net (with_artificial b.net).arcs b.amounts v ≡ net b.net.arcs (state_of b).amounts v
  net_without none v =
      let rest = net_of_zeros (added_arcs b.net) (drop (length b.net.arcs) b.amounts) v (no_rest none) in
      omega (arith, ints, split_net b.net b.amounts v (omega (arith, amount_count)), rest)
