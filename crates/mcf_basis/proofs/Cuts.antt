-- What artificial arcs carry at a last basis: nothing where some flow is feasible. Where one
-- carries something, the nodes of price above 0 can't send what they must.
use Rattle.std.proofs.Common.{◌≡◌, ◌≢◌, ℕ, zero, suc, ◌+◌, ◌-◌, ◌*◌, ◌<◌, ◌≤◌, inl, inr, Bool, true, false, not, List, length, map, drop, sum, set, ◌&&◌}
use Rattle.std.proofs.Common.{get_or, refl, sym, ap, ◌∙◌, subst, arith, ℤ, pos, neg_ℤ, ◌+ℤ◌, ◌-ℤ◌, ◌≤ℤ◌, ◌<ℤ◌, length-set, [], ◌∷◌, negsuc, ◌*ℤ◌}
use Rattle.std.specs.Prelude.{int_lt, max, unsigned_abs}
use Rattle.std.specs.List.{AllZip, All}
use Rattle.std.proofs.Math.Nat.{le-max_right, mul-le-mul_left}
use Rattle.std.proofs.lemmas.Bool.{and_parts, cases_Bool, cond-true, cond-false}
use Rattle.std.proofs.lemmas.Int.{ints}
use Rattle.std.proofs.lemmas.List.{get_or-map, get_or-set_other, length-map}
use Rattle.std.proofs.lemmas.List.Elements.{All-head, All-tail}
use Rattle.std.proofs.lemmas.List.Sums.{sum_by-set}
use Rattle.mcf_flows.specs.declared.arc.Arc.{Arc}
use Rattle.mcf_flows.specs.declared.problem.Side.TheVariants.{Send}
use Rattle.mcf_flows.specs.Blocking.{Blocks, cap_leaving, enters, leaves, low_entering, supply_in}
use Rattle.mcf_flows.specs.Flow.{net, CanCarry, IsComplementary, IsFeasible, IsWithinBounds, cost, reduced_cost}
use Rattle.mcf_flows.specs.Network.{IsArcNumber, IsNode, at_node, flow_sum, node_count, node_sum, when}
use Rattle.mcf_flows.specs.WellFormed.{HasEnds, IsUpTo, weight}
use Rattle.mcf_flows.proofs.ArcSums.{arc_sum-same, arc_sum-zero, flow_sum-arc_sum, flow_sum-same_at, flow_sum-zero, flow_sum-le_two, flow_sum-same}
use Rattle.mcf_flows.proofs.ArcSums.{flow_sum-sub}
use Rattle.mcf_flows.proofs.Bounds.{up_to_size, weight-le-sum, mul_up_to, sum-weights}
use Rattle.mcf_flows.proofs.Duality.{reduced_total}
use Rattle.mcf_flows.proofs.Hoffman.{nets_across}
use Rattle.mcf_flows.proofs.IntLaws.{mul-anti, mul-mono, mul-neg, mul-one, mul-sub, neg-mul, sub-mul}
use Rattle.mcf_flows.proofs.NodeSums.{nets_cancel, node_sum-add, node_sum-same, node_sum-sub, node_sum_above_zero, node_sum_at_least_zero, node_sum-mul}
use Rattle.mcf_flows.proofs.NodeSums.{node_sum-net}
use Rattle.mcf_tree.specs.Rooted.{climb}
use Rattle.mcf_tree.proofs.Depths.{climb_apart}
use Rattle.mcf_tree.proofs.Paths.{climb-add, climb-suc}
use Rattle.mcf_network.specs.Nets.{IsNetArc}
use Rattle.mcf_network.specs.Residual.{no_arc, arc_at}
use Rattle.mcf_network.proofs.ArcLaws.{ends_at, net_arc_at}
use Rattle.mcf_network.proofs.StateLaws.{when-add, when-zero}
use Rattle.mcf_tree.specs.SpanningTree.{depth_of, label_of, parent_of}
use Rattle.mcf_basis.specs.Artificial.{artificial_arc, artificial_cost, is_sender}
use Rattle.mcf_basis.specs.Bases.{CanHold, HasTreeArc, IsBasis}
use Rattle.mcf_basis.specs.Laws.{HasNoArtificial, LastBasesAreFeasible}
use Rattle.mcf_basis.specs.Structures.{TreeStructure, Joins, carried, price_at, reduced_at, state_of}
use Rattle.mcf_basis.specs.Violations.{HasNoEligible}
use Rattle.mcf_basis.proofs.Around.{tree_of}
use Rattle.mcf_basis.proofs.Labels.{added_arcs, amount_count, read_added, rest_count, split_net, added_arc, added_label, cases_in_tree, inner_arc, own_arc}
use Rattle.mcf_basis.proofs.Labels.{own_label, sender_ends, taker_ends}
use Rattle.mcf_basis.proofs.LastBases.{each_own, empty_above, full_below, node_count_added, supply_added, zero_or_more, above_zero, not_above_zero, node_price}
use Rattle.mcf_basis.proofs.LastBases.{shows, within}
use Rattle.mcf_basis.proofs.Offers.{own_reduced}
use Rattle.mcf_basis.proofs.Pushed.{node_of}
use Rattle.mcf_basis.proofs.StarBases.{added_net}
use Rattle.mcf_basis.proofs.StrongPivot.{IsStep, labels_apart, step_at}
use Rattle.mcf_basis.proofs.TreePrices.{in_tree, one_step, top, top_near}

-- the arcs of the net that are in the tree can carry something
abbrev pub HasWideTree : TreeStructure → Type 0
HasWideTree b =
    (v : ℕ) → IsNode (node_count b.net) v → label_of b.tree v ≤ length b.net.arcs → pos 0 <ℤ (arc_at b.net (label_of b.tree v)).cap

-- ---- the entries at different places of a list

-- f 0 + .. + f (n - 1)
abbrev pub total : (ℕ → ℕ) → ℕ → ℕ
total f zero = 0
total f (suc n) = total f n + f n

total-same : (f h : ℕ → ℕ) (n : ℕ) → ((i : ℕ) → i < n → f i ≡ h i) → total f n ≡ total h n
total-same f h zero e = refl
total-same f h (suc n) e = omega (arith, total-same f h n (λ i l. e i (omega arith)), e n (omega arith))

-- what is left of a list without them
record HasRest (ws : List ℕ) (at : ℕ → ℕ) (n : ℕ) : Type 0 where
  pub rest : List ℕ
  pub size : length rest ≡ length ws
  pub sums : total (λ i. get_or ws (at i) 0) n + sum rest ≡ sum ws
  pub kept : (j : ℕ) → ((i : ℕ) → i < n → j ≢ at i) → get_or rest j 0 ≡ get_or ws j 0

rest_of : (ws : List ℕ) (at : ℕ → ℕ) (n : ℕ) → ((i : ℕ) → i < n → at i < length ws) → ((i j : ℕ) → i < j → j < n → at i ≢ at j) → HasRest ws at n
rest_of ws at zero inside apart = record { rest = ws; size = refl; sums = omega arith; kept = λ j off. refl }
rest_of ws at (suc n) inside apart =
    let r : HasRest ws at n = rest_of ws at n (λ i h. inside i (omega arith)) (λ i j h l. apart i j h (omega arith)) in
    let here : at n < length ws = inside n (omega arith) in
    let one : sum (set r.rest (at n) 0) + get_or r.rest (at n) 0 ≡ sum r.rest + 0 = sum_by-set (λ x. x) r.rest (at n) 0 0 (omega (arith, r.size, here)) in
    record {
      rest = set r.rest (at n) 0;
      size = length-set r.rest (at n) 0 ∙ r.size;
      sums = omega (arith, r.kept (at n) (λ i h e. apart i n h (omega arith) (sym e)), r.sums, one);
      kept = λ j off. get_or-set_other r.rest (at n) j 0 0 (off n (omega arith)) ∙ r.kept j (λ i h. off i (omega arith));
    }

-- ---- what the artificial arcs carry

abbrev pub artificial_amount : TreeStructure → ℕ → ℤ
artificial_amount b v = carried b (length b.net.arcs + v)

-- what the arcs of the net leave of the supply of a node
abbrev pub unsent : TreeStructure → ℕ → ℤ
unsent b v = at_node b.net.supplies v -ℤ net b.net.arcs (state_of b).amounts v

-- it goes along the artificial arc, and where it isn't 0, this arc says what the price is
pub data NodeCase (b : TreeStructure) (v : ℕ) : Type 0 where
  sends : unsent b v ≡ artificial_amount b v → (pos 0 <ℤ artificial_amount b v → price_at b v ≡ pos (artificial_cost b.net)) → NodeCase b v
  takes : unsent b v ≡ neg_ℤ (artificial_amount b v) → (pos 0 <ℤ artificial_amount b v → price_at b v ≡ neg_ℤ (pos (artificial_cost b.net))) → NodeCase b v

module _ (b : TreeStructure) (ok : IsBasis b) where
  pub artificial_low : (v : ℕ) → IsNode (node_count b.net) v → pos 0 ≤ℤ artificial_amount b v
  artificial_low v h = (ok.flow.within_bounds (length b.net.arcs + v) (added_label b.net v h)).low

  -- what carries something is in the tree
  carrying : (v : ℕ) → IsNode (node_count b.net) v → pos 0 <ℤ artificial_amount b v → reduced_at b (length b.net.arcs + v) ≡ pos 0
  carrying v h some =
      elim (cases_in_tree b (length b.net.arcs + v)) [
        | inl t ↦ ap (reduced_at b) (sym t.labelled) ∙ ok.prices.balanced t.node t.is_node
        | inr out ↦ absurd (elim (ok.at_bounds (length b.net.arcs + v) (added_label b.net v h) out) [
          | inl z ↦ omega (arith, ints, z, some)
          | inr f ↦ (let le = f.0 in omega (arith, le, h))
        ])
      ]

  -- along such an artificial arc the price falls by its cost
  added_price : (v : ℕ) → IsNode (node_count b.net) v → pos 0 <ℤ artificial_amount b v
      → price_at b (artificial_arc b.net v).src ≡ pos (artificial_cost b.net) +ℤ price_at b (artificial_arc b.net v).dst
  added_price v h some =
      let r = ap (λ a. a.cost -ℤ price_at b a.src +ℤ price_at b a.dst) (added_arc b.net v (length b.net.arcs + v) h refl) in
      omega (arith, ints, carrying v h some, r)

  -- what a node has unsent goes along its artificial arc
  unsent_is : (v : ℕ) → IsNode (node_count b.net) v → unsent b v ≡ net (added_arcs b.net) (drop (length b.net.arcs) b.amounts) v
  unsent_is v h =
      let split = split_net b.net b.amounts v (omega (arith, amount_count b ok)) in
      omega (arith, ints, ok.flow.no_surplus v (subst (λ n. IsNode n v) (node_count_added b.net) h), supply_added b.net v, split)

  pub node_case : (v : ℕ) → IsNode (node_count b.net) v → NodeCase b v
  node_case v h =
      elim (cases_Bool (is_sender b.net v)) [
        | inl e ↦ sends (unsent_is v h ∙ (added_net b.net (drop (length b.net.arcs) b.amounts) (rest_count b ok) v h ∙ cond-true _ _ _ e
            ∙ read_added b (v - 1) v (omega arith))) (λ some. (let falls = added_price v h some in
            let to = ap (price_at b) (sender_ends b.net v e).1 in
            omega (arith, ints, falls, ap (price_at b) (sender_ends b.net v e).0, to, ok.prices.root)))
        | inr e ↦ takes (unsent_is v h ∙ (added_net b.net (drop (length b.net.arcs) b.amounts) (rest_count b ok) v h ∙ cond-false _ _ _ e
            ∙ ap neg_ℤ (read_added b (v - 1) v (omega arith)))) (λ some. (let falls = added_price v h some in
            let to = ap (price_at b) (taker_ends b.net v e).1 in
            omega (arith, ints, falls, ap (price_at b) (taker_ends b.net v e).0, to, ok.prices.root)))
      ]

-- ---- how far a price lies from that of the child of the root above it

abbrev weights : TreeStructure → List ℕ
weights b = map weight b.net.arcs

-- the place of the arc above the node i steps up from v, and its weight
abbrev place_of : TreeStructure → ℕ → ℕ → ℕ
place_of b v i = label_of b.tree (climb b.tree.parents i v) - 1

abbrev weight_of : TreeStructure → ℕ → ℕ → ℕ
weight_of b v i = get_or (weights b) (place_of b v i) 0

-- the weights of all arcs from v up to that child
abbrev path_weight : TreeStructure → ℕ → ℕ
path_weight b v = total (weight_of b v) (depth_of b.tree v - 1)

-- an arc that can carry something weighs no less than the size of its cost
weight_wide : (a : Arc) → pos 0 <ℤ a.cap → unsigned_abs a.cost ≤ weight a
weight_wide a h =
    let right = le-max_right (unsigned_abs a.low) (unsigned_abs a.cap) in
    let le : unsigned_abs a.cost * 1 ≤ unsigned_abs a.cost * max (unsigned_abs a.low) (unsigned_abs a.cap) =
    mul-le-mul_left (unsigned_abs a.cost) (omega (arith, ints, up_to_size a.cap, right, h)) in
    omega (arith, le)

module _ (b : TreeStructure) (ok : IsBasis b) where
  abbrev ps : List ℕ
  ps = b.tree.parents

  abbrev depth : ℕ → ℕ
  depth = depth_of b.tree

  at : (v i : ℕ) → v ≤ node_count b.net → i < depth v → IsStep ps (depth_of b.tree) v i
  at v i h lt = step_at ok.spanning.rooted v (depth v) i (in_tree b ok v h) (omega arith) lt

  at_node_of : (v i : ℕ) → v ≤ node_count b.net → i < depth v → IsNode (node_count b.net) (climb ps i v)
  at_node_of v i h lt = let w = at v i h lt in node_of b ok (climb ps i v) w.above w.within

  node_deep : (v : ℕ) → IsNode (node_count b.net) v → 0 < depth v
  node_deep v h = let e = ok.spanning.rooted.falls v h.0 (in_tree b ok v h.1) in omega (arith, e)

  up_one : (v i : ℕ) → parent_of b.tree (climb ps i v) ≡ climb ps (suc i) v
  up_one v i = sym (climb-suc ps i v)

  -- below the children of the root the arcs of the tree are arcs of the net
  own_at : (v i : ℕ) → v ≤ node_count b.net → suc i < depth v → IsArcNumber b.net (label_of b.tree (climb ps i v))
  own_at v i h lt =
      let arc : HasTreeArc b (climb ps i v) = ok.tree_arcs (climb ps i v) (at_node_of v i h (omega arith)) in
      inner_arc b.net (label_of b.tree (climb ps i v)) (climb ps i v) (parent_of b.tree (climb ps i v)) arc.label ((at v i h (omega arith)).above)
      (subst (λ u. 0 < u) (sym (up_one v i)) ((at v (suc i) h lt).above)) arc.joins

  place_within : (v i : ℕ) → v ≤ node_count b.net → suc i < depth v → place_of b v i < length (weights b)
  place_within v i h lt = let own = own_at v i h lt in let n = length-map b.net.arcs weight in omega (arith, own, n)

  read_weight : (k : ℕ) → IsArcNumber b.net k → get_or (weights b) (k - 1) 0 ≡ weight (arc_at b.net k)
  read_weight k h = get_or-map weight b.net.arcs (k - 1) no_arc 0 (omega arith)

  -- different nodes below them have their arcs at different places
  places_apart : (u v i j : ℕ) → u ≤ node_count b.net → v ≤ node_count b.net → suc i < depth u → suc j < depth v
      → climb ps i u ≢ climb ps j v → place_of b u i ≢ place_of b v j
  places_apart u v i j hu hv li lj ne e =
      let one = at u i hu (omega arith) in
      let two = at v j hv (omega arith) in
      labels_apart (tree_of b ok) (climb ps i u) (climb ps j v)
      one.above one.within two.above two.within ne (omega (arith, own_at u i hu li, own_at v j hv lj, e))

  own_apart : (v i j : ℕ) → v ≤ node_count b.net → i < j → suc j < depth v → place_of b v i ≢ place_of b v j
  own_apart v i j h lt le =
      places_apart v v i j h h (omega arith) le (climb_apart ps (depth_of b.tree) ok.spanning.rooted v i j (in_tree b ok v h) lt (omega arith))

  -- a node of the path has the same child of the root above it
  top_same : (v i : ℕ) → v ≤ node_count b.net → i < depth v → top b (climb ps i v) ≡ top b v
  top_same v i h lt =
      let e = (at v i h lt).deep in
      let steps : depth (climb ps i v) - 1 ≡ depth v - 1 - i = omega (arith, e) in
      let all : i + (depth v - 1 - i) ≡ depth v - 1 = omega arith in
      ap (λ n. climb ps n (climb ps i v)) steps ∙ (sym (climb-add ps i (depth v - 1 - i) v) ∙ ap (λ n. climb ps n v) all)

  sides_apart : (u v i j : ℕ) → u ≤ node_count b.net → v ≤ node_count b.net → top b u ≢ top b v
      → suc i < depth u → suc j < depth v → place_of b u i ≢ place_of b v j
  sides_apart u v i j hu hv ne li lj =
      places_apart u v i j hu hv li lj (λ e. ne (sym (top_same u i hu (omega arith)) ∙ (ap (top b) e ∙ top_same v j hv (omega arith))))

  -- the weights of a path are among those of all arcs
  rest_of_path : (v : ℕ) → v ≤ node_count b.net → HasRest (weights b) (place_of b v) (depth v - 1)
  rest_of_path v h = rest_of (weights b) (place_of b v) (depth v - 1) (λ i l. place_within v i h (omega arith)) (λ i j l m. own_apart v i j h l (omega arith))

  path_within : (v : ℕ) → v ≤ node_count b.net → path_weight b v ≤ sum (weights b)
  path_within v h = let r = rest_of_path v h in let s = r.sums in omega (arith, s)

  -- and so are those of two paths to different children of the root, together
  pub paths_within : (u v : ℕ) → u ≤ node_count b.net → v ≤ node_count b.net → top b u ≢ top b v → path_weight b u + path_weight b v ≤ sum (weights b)
  paths_within u v hu hv ne =
      let r : HasRest (weights b) (place_of b u) (depth u - 1) = rest_of_path u hu in
      let t : HasRest r.rest (place_of b v) (depth v - 1) = rest_of r.rest (place_of b v) (depth v - 1)
      (λ i l. (let w = place_within v i hv (omega arith) in omega (arith, r.size, w))) (λ i j l m. own_apart v i j hv l (omega arith)) in
      let same : total (λ i. get_or r.rest (place_of b v i) 0) (depth v - 1) ≡ path_weight b v =
      total-same (λ i. get_or r.rest (place_of b v i) 0) (weight_of b v) (depth v - 1)
      (λ j l. r.kept (place_of b v j) (λ i m e. sides_apart u v i j hu hv ne (omega arith) (omega arith) (sym e))) in
      omega (arith, same, r.sums, t.sums)

  module _ (wide : HasWideTree b) where
    near_step : (v i : ℕ) → v ≤ node_count b.net → suc i < depth v → IsUpTo (weight_of b v i) (price_at b (climb ps i v) -ℤ price_at b (climb ps (suc i) v))
    near_step v i h lt =
        let node = at_node_of v i h (omega arith) in
        let arc : HasTreeArc b (climb ps i v) = ok.tree_arcs (climb ps i v) node in
        let own = own_at v i h lt in
        let room = wide (climb ps i v) node own.1 in
        let le = weight_wide (arc_at b.net (label_of b.tree (climb ps i v))) room in
        let read = read_weight (label_of b.tree (climb ps i v)) own in
        let size = up_to_size (arc_at b.net (label_of b.tree (climb ps i v))).cost in
        let same = ap (λ a. a.cost) (own_arc b.net (label_of b.tree (climb ps i v)) own) in
        let step = one_step b (label_of b.tree (climb ps i v)) (climb ps i v) (climb ps (suc i) v) (weight_of b v i) 0 (price_at b (climb ps (suc i) v))
        (subst (Joins b.net (label_of b.tree (climb ps i v)) (climb ps i v)) (up_one v i) arc.joins) (ok.prices.balanced (climb ps i v) node)
        (omega (arith, ints, le, read, size, same), omega (arith, ints, le, read, size, same)) (omega (arith, ints), omega (arith, ints)) in
        (omega (arith, ints, step), omega (arith, ints, step))

    near_up : (v n : ℕ) → v ≤ node_count b.net → n < depth v → IsUpTo (total (weight_of b v) n) (price_at b v -ℤ price_at b (climb ps n v))
    near_up v zero h lt = (omega (arith, ints), omega (arith, ints))
    near_up v (suc n) h lt =
        let here = near_step v n h lt in
        (omega (arith, ints, near_up v n h (omega arith), here), omega (arith, ints, near_up v n h (omega arith), here))

    pub near_top : (v : ℕ) → IsNode (node_count b.net) v → IsUpTo (path_weight b v) (price_at b v -ℤ price_at b (top b v))
    near_top v h = let deep = node_deep v h in near_up v (depth v - 1) h.1 (omega (arith, deep))

    -- the prices of two nodes on different sides of 0 lie further apart than any cost
    pub prices_apart : (u v : ℕ) → IsNode (node_count b.net) u → IsNode (node_count b.net) v
        → pos 0 <ℤ price_at b u → price_at b v ≤ℤ pos 0 → pos (artificial_cost b.net + 1) ≤ℤ (price_at b u -ℤ price_at b v)
    prices_apart u v hu hv up down =
        elim (top_near b ok u hu.0 hu.1) [
          | inr pu ↦ absurd (omega (arith, ints, near_top u hu, path_within u hu.1, pu, up))
          | inl pu ↦ elim (top_near b ok v hv.0 hv.1) [
            | inl pv ↦ absurd (omega (arith, ints, near_top v hv, path_within v hv.1, pv, down))
            | inr pv ↦ (let ne : top b u ≢ top b v = (λ e. (let same = ap (price_at b) e in omega (arith, ints, same, pu, pv))) in
                omega (arith, ints, near_top u hu, near_top v hv, pu, pv, paths_within u v hu.1 hv.1 ne))
          ]
        ]

-- ---- the cut

not_true : (t : Bool) → not t ≡ true → t ≡ false
not_true t e = grind arith

when_agree : (t : Bool) (f c : ℤ) → (t ≡ true → f ≡ c) → when t f ≡ when t c
when_agree true f c h = h refl
when_agree false f c h = refl

when_low : (t : Bool) (z : ℤ) → (t ≡ true → pos 0 ≤ℤ z) → pos 0 ≤ℤ when t z
when_low t z h = grind (arith, ints)

when_gap : (t : Bool) (z : ℤ) → (t ≡ false → z ≤ℤ pos 0) → pos 0 ≤ℤ (when t z -ℤ z)
when_gap t z h = grind (arith, ints)

module _ (b : TreeStructure) (ok : IsBasis b) (none : HasNoEligible b) where
  abbrev side : ℕ → Bool
  side v = int_lt (pos 0) (price_at b v)

  -- what leaves the nodes of price above 0 is all that can, and nothing enters them
  abbrev Crosses : Arc → ℤ → Type 0
  Crosses a f = (leaves side a ≡ true → f ≡ a.cap) × (enters side a ≡ true → f ≡ pos 0)

  -- an arc without width carries nothing, which is all that it can
  narrow : (k : ℕ) → IsArcNumber b.net k → (arc_at b.net k).cap ≡ pos 0 → carried b k ≡ pos 0
  narrow k h c =
      let held : CanHold b.net k (carried b k) = ok.flow.within_bounds k (own_label b.net k h) in
      omega (arith, ints, held.low, held.high h.1, c)

  module _ (wide : HasWideTree b) where
    over : (u v : ℕ) → IsNode (node_count b.net) u → IsNode (node_count b.net) v → (side u && not (side v)) ≡ true
        → pos (artificial_cost b.net + 1) ≤ℤ (price_at b u -ℤ price_at b v)
    over u v hu hv e =
        let p = and_parts (side u) (not (side v)) e in
        prices_apart b ok wide u v hu hv (above_zero (price_at b u) p.0) (not_above_zero (price_at b v) (not_true (side v) p.1))

    crossing_wide : (k : ℕ) → IsArcNumber b.net k → pos 0 <ℤ (arc_at b.net k).cap → Crosses (arc_at b.net k) (carried b k)
    crossing_wide k h some =
        let ends : HasEnds (node_count b.net) (arc_at b.net k) = ends_at b.net k ok.of_net h in
        let size = up_to_size (arc_at b.net k).cost in
        let le = weight_wide (arc_at b.net k) some in
        let all : weight (arc_at b.net k) ≤ sum (weights b) = weight-le-sum weight b.net.arcs (k - 1) no_arc (omega arith) in (
          λ e. (let apart = over (arc_at b.net k).src (arc_at b.net k).dst ends.src_is_node ends.dst_is_node e in
              full_below b ok none k h (omega (arith, ints, own_reduced b k h, size, le, all, apart))),
          λ e. (let apart = over (arc_at b.net k).dst (arc_at b.net k).src ends.dst_is_node ends.src_is_node e in
              empty_above b ok none k h (omega (arith, ints, own_reduced b k h, size, le, all, apart))),
        )

    crossing_arc : (k : ℕ) → IsArcNumber b.net k → Crosses (arc_at b.net k) (carried b k)
    crossing_arc k h =
        let a : IsNetArc (arc_at b.net k) = net_arc_at b.net k ok.of_net h in
        elim (zero_or_more (arc_at b.net k).cap a.width_low) [
          | inl c ↦ (λ e. narrow k h c ∙ sym c, λ e. narrow k h c)
          | inr some ↦ crossing_wide k h some
        ]

    crossing : AllZip Crosses b.net.arcs (state_of b).amounts
    crossing = each_own b ok Crosses crossing_arc

    sum_leaving : flow_sum (λ a f. when (leaves side a) f) b.net.arcs (state_of b).amounts ≡ cap_leaving b.net.arcs side
    sum_leaving =
        flow_sum-same_at Crosses (λ a f. when (leaves side a) f) (λ a f. when (leaves side a) a.cap)
        (λ a f r. when_agree (leaves side a) f a.cap r.0) b.net.arcs (state_of b).amounts crossing
        ∙ flow_sum-arc_sum Crosses (λ a. when (leaves side a) a.cap) b.net.arcs (state_of b).amounts crossing

    sum_entering : flow_sum (λ a f. when (enters side a) f) b.net.arcs (state_of b).amounts ≡ pos 0
    sum_entering =
        flow_sum-same_at Crosses (λ a f. when (enters side a) f) (λ a f. pos 0)
        (λ a f r. when_agree (enters side a) f (pos 0) r.1 ∙ when-zero (enters side a)) b.net.arcs (state_of b).amounts crossing
        ∙ flow_sum-zero b.net.arcs (state_of b).amounts

    low_in : low_entering b.net.arcs side ≡ pos 0
    low_in =
        arc_sum-same IsNetArc (λ a. when (enters side a) a.low) (λ a. pos 0) (λ a h. ap (when (enters side a)) h.no_low ∙ when-zero (enters side a))
        b.net.arcs ok.of_net.each_arc
        ∙ arc_sum-zero b.net.arcs

    -- what the set must send is what leaves it and what its nodes have unsent
    set_supply : supply_in b.net.supplies side ≡ cap_leaving b.net.arcs side +ℤ node_sum (λ v. when (side v) (unsent b v)) (node_count b.net)
    set_supply =
        let split : node_sum (λ v. when (side v) (at_node b.net.supplies v)) (node_count b.net)
        ≡ node_sum (λ v. when (side v) (net b.net.arcs (state_of b).amounts v) +ℤ when (side v) (unsent b v)) (node_count b.net) =
        node_sum-same (λ v. when (side v) (at_node b.net.supplies v))
        (λ v. when (side v) (net b.net.arcs (state_of b).amounts v) +ℤ when (side v) (unsent b v)) (node_count b.net)
        (λ v h. ap (when (side v)) (parts (at_node b.net.supplies v) (net b.net.arcs (state_of b).amounts v))
        ∙ when-add (side v) (net b.net.arcs (state_of b).amounts v) (unsent b v)) in
        let add = node_sum-add (λ v. when (side v) (net b.net.arcs (state_of b).amounts v)) (λ v. when (side v) (unsent b v)) (node_count b.net) in
        let across = nets_across (node_count b.net) b.net.arcs (state_of b).amounts side ok.of_net.ends in
        omega (arith, ints, split, add, across, sum_leaving, sum_entering)
      where
        parts : (s t : ℤ) → s ≡ t +ℤ (s -ℤ t)
        parts = λ s t. omega (arith, ints)

    -- a node of the set has what its artificial arc carries left to send, and another left to take
    by_side : (v : ℕ) → IsNode (node_count b.net) v
        → (side v ≡ true → unsent b v ≡ artificial_amount b v) × (side v ≡ false → unsent b v ≡ neg_ℤ (artificial_amount b v))
    by_side v h =
        elim (zero_or_more (artificial_amount b v) (artificial_low b ok v h)) [
          | inl z ↦ elim (node_case b ok v h) [
            | sends e p ↦ (λ t. e, λ f. omega (arith, ints, e, z))
            | takes e p ↦ (λ t. omega (arith, ints, e, z), λ f. e)
          ]
          | inr some ↦ elim (node_case b ok v h) [
            | sends e p ↦ (λ t. e, λ f. absurd (let price = p some in let down = not_above_zero (price_at b v) f in omega (arith, ints, price, down)))
            | takes e p ↦ (λ t. absurd (let price = p some in let up = above_zero (price_at b v) t in omega (arith, ints, price, up)), λ f. e)
          ]
        ]

    module _ (balanced : supply_in b.net.supplies (λ v. true) ≡ pos 0) where
      all_unsent : node_sum (unsent b) (node_count b.net) ≡ pos 0
      all_unsent =
          let apart = node_sum-sub (at_node b.net.supplies) (net b.net.arcs (state_of b).amounts) (node_count b.net) in
          omega (arith, ints, apart, nets_cancel (node_count b.net) b.net.arcs (state_of b).amounts ok.of_net.ends, balanced)

      in_low : (v : ℕ) → IsNode (node_count b.net) v → pos 0 ≤ℤ when (side v) (unsent b v)
      in_low v h = when_low (side v) (unsent b v) (λ t. (let e = (by_side v h).0 t in let low = artificial_low b ok v h in omega (arith, ints, e, low)))

      -- where an artificial arc carries something, the set has something left to send
      left_over : (u : ℕ) → IsNode (node_count b.net) u → pos 0 <ℤ artificial_amount b u
          → pos 0 <ℤ node_sum (λ v. when (side v) (unsent b v)) (node_count b.net)
      left_over u node some = elim (cases_Bool (side u)) [
        | inl t ↦ node_sum_above_zero (λ v. when (side v) (unsent b v)) (node_count b.net) u node
            (let up = (by_side u node).0 t in
            let is : when (side u) (unsent b u) ≡ unsent b u = ap (λ s. when s (unsent b u)) t in omega (arith, ints, up, some, is)) in_low
        | inr f ↦ (let all = all_unsent in
            let more = node_sum_above_zero (λ v. when (side v) (unsent b v) -ℤ unsent b v) (node_count b.net) u node
            (let down = (by_side u node).1 f in
            let is : when (side u) (unsent b u) ≡ pos 0 = ap (λ s. when s (unsent b u)) f in omega (arith, ints, down, some, is))
            (λ v h. when_gap (side v) (unsent b v) (λ t. (let e = (by_side v h).1 t in let low = artificial_low b ok v h in omega (arith, ints, e, low)))) in
            omega (arith, ints, all, node_sum-sub (λ v. when (side v) (unsent b v)) (unsent b) (node_count b.net), more))
      ]

      blocked : ¬ HasNoArtificial b → Blocks b.net side Send
      blocked uneven =
          elim (zero_or_more (node_sum (λ v. when (side v) (unsent b v)) (node_count b.net))
          (node_sum_at_least_zero (λ v. when (side v) (unsent b v)) (node_count b.net) in_low)) [
            | inl nothing ↦ absurd (uneven (λ v h. elim (zero_or_more (artificial_amount b v) (artificial_low b ok v h)) [
              | inl z ↦ z
              | inr some ↦ absurd (let more = left_over v h some in omega (arith, ints, nothing, more))
            ]))
            | inr more ↦ omega (arith, ints, more, set_supply, low_in)
          ]

-- where no arc is eligible and an artificial arc carries something, the nodes of price above 0 must
-- send more than they can
pub cuts_block : (b : TreeStructure) → IsBasis b → HasNoEligible b → HasWideTree b
    → supply_in b.net.supplies (λ v. true) ≡ pos 0 → ¬ HasNoArtificial b → Blocks b.net (λ v. int_lt (pos 0) (price_at b v)) Send
cuts_block = blocked

-- ---- costs of two flows

-- within its bounds, what an arc costs changes by no more than its weight
one_apart : (a : Arc) (f h : ℤ) → IsNetArc a → CanCarry a f → CanCarry a h → (a.cost *ℤ h -ℤ a.cost *ℤ f) ≤ℤ pos (weight a)
one_apart a f h arc cf ch =
    let size = up_to_size a.cap in
    let right = le-max_right (unsigned_abs a.low) (unsigned_abs a.cap) in
    let gap : IsUpTo (max (unsigned_abs a.low) (unsigned_abs a.cap)) (h -ℤ f) =
    (omega (arith, ints, arc.no_low, size, right, cf, ch), omega (arith, ints, arc.no_low, size, right, cf, ch)) in
    let product = mul_up_to a.cost (h -ℤ f) (unsigned_abs a.cost) (max (unsigned_abs a.low) (unsigned_abs a.cap)) (up_to_size a.cost) gap in
    omega (arith, ints, product, mul-sub a.cost h f)

costs_apart : (arcs : List Arc) (x y : List ℤ) → All IsNetArc arcs → IsWithinBounds arcs x → IsWithinBounds arcs y
    → (cost arcs y -ℤ cost arcs x) ≤ℤ pos (sum (map weight arcs))
costs_apart [] x y each hx hy = omega (arith, ints)
costs_apart (a ∷ arcs) [] y each hx hy = absurd hx
costs_apart (a ∷ arcs) (f ∷ x) [] each hx hy = absurd hy
costs_apart (a ∷ arcs) (f ∷ x) (h ∷ y) each hx hy =
    let rest = costs_apart arcs x y (All-tail IsNetArc a arcs each) hx.1 hy.1 in
    omega (arith, ints, one_apart a f h (All-head IsNetArc a arcs each) hx.0 hy.0, rest, sum-weights weight a arcs)

-- where an arc is complementary, no other flow within its bounds has a smaller product with the
-- reduced cost r
no_smaller : (r low cap f other : ℤ) → (pos 0 <ℤ r → f ≡ low) → (r <ℤ pos 0 → f ≡ cap) → low ≤ℤ other → other ≤ℤ cap → (r *ℤ f) ≤ℤ (r *ℤ other)
no_smaller (pos zero) low cap f other above below l u = omega (arith, ints)
no_smaller (pos (suc n)) low cap f other above below l u =
    let e : f ≡ low = above (omega (arith, ints)) in mul-mono (pos (suc n)) f other (omega (arith, ints)) (omega (arith, ints))
no_smaller (negsuc n) low cap f other above below l u =
    let e : f ≡ cap = below (omega (arith, ints)) in mul-anti (negsuc n) other f (omega (arith, ints)) (omega (arith, ints))

-- ---- the sum of reduced costs by amounts

paid_by : (p u x m : ℤ) → pos 0 ≤ℤ x → u ≡ x → (pos 0 <ℤ x → p ≡ m) → p *ℤ u ≡ m *ℤ x
paid_by p u x m low e price = elim (zero_or_more x low) [
  | inl z ↦ rw (e, z) (omega (arith, ints))
  | inr some ↦ rw (e, price some) refl
]

both_turned : (p u : ℤ) → neg_ℤ p *ℤ neg_ℤ u ≡ p *ℤ u
both_turned p u = (let first = neg-mul p (neg_ℤ u) in let second = mul-neg p u in omega (arith, ints, first, second))

regroup : (c s t : ℤ) → c -ℤ s +ℤ t ≡ c -ℤ (s -ℤ t)
regroup c s t = omega (arith, ints)

module _ (b : TreeStructure) (ok : IsBasis b) where
  abbrev prices : List ℤ
  prices = drop 1 b.prices

  abbrev own : List ℤ
  own = (state_of b).amounts

  abbrev paid : Arc → ℤ → ℤ
  paid a f = reduced_cost prices a *ℤ f

  -- what a node has unsent costs, at its price, what its artificial arc costs
  unsent_paid : (v : ℕ) → IsNode (node_count b.net) v → at_node prices v *ℤ unsent b v ≡ pos (artificial_cost b.net) *ℤ artificial_amount b v
  unsent_paid v h =
      let low = artificial_low b ok v h in
      ap (λ p. p *ℤ unsent b v) (node_price b ok v h) ∙ elim (node_case b ok v h) [
        | sends e p ↦ paid_by (price_at b v) (unsent b v) (artificial_amount b v) (pos (artificial_cost b.net)) low e p
        | takes e p ↦ sym (both_turned (price_at b v) (unsent b v)) ∙ paid_by (neg_ℤ (price_at b v)) (neg_ℤ (unsent b v)) (artificial_amount b v)
            (pos (artificial_cost b.net)) low (omega (arith, ints, e)) (λ some. (let q = p some in omega (arith, ints, q)))
      ]

  split : (a : Arc) (f : ℤ) → HasEnds (node_count b.net) a → paid a f ≡ a.cost *ℤ f -ℤ (at_node prices a.src -ℤ at_node prices a.dst) *ℤ f
  split a f h =
      ap (λ z. z *ℤ f) (regroup a.cost (at_node prices a.src) (at_node prices a.dst))
      ∙ sub-mul a.cost (at_node prices a.src -ℤ at_node prices a.dst) f

  -- over the amounts of the basis
  own_total : flow_sum paid b.net.arcs own ≡ cost b.net.arcs own -ℤ node_sum (λ v. at_node prices v *ℤ net b.net.arcs own v) (node_count b.net)
  own_total =
      flow_sum-same (HasEnds (node_count b.net)) paid (λ a f. a.cost *ℤ f -ℤ (at_node prices a.src -ℤ at_node prices a.dst) *ℤ f)
      split b.net.arcs own ok.of_net.ends
      ∙ flow_sum-sub (λ a f. a.cost *ℤ f) (λ a f. (at_node prices a.src -ℤ at_node prices a.dst) *ℤ f) b.net.arcs own
      ∙ ap (λ z. cost b.net.arcs own -ℤ z) (sym (node_sum-net (at_node prices) (node_count b.net) b.net.arcs own ok.of_net.ends))

  supply_paid : node_sum (λ v. at_node prices v *ℤ net b.net.arcs own v) (node_count b.net)
      ≡ node_sum (λ v. at_node prices v *ℤ at_node b.net.supplies v) (node_count b.net)
      -ℤ pos (artificial_cost b.net) *ℤ node_sum (artificial_amount b) (node_count b.net)
  supply_paid =
      node_sum-same (λ v. at_node prices v *ℤ net b.net.arcs own v)
      (λ v. at_node prices v *ℤ at_node b.net.supplies v -ℤ pos (artificial_cost b.net) *ℤ artificial_amount b v) (node_count b.net)
      (λ v h. (let u = unsent_paid v h in
      omega (arith, ints, u, mul-sub (at_node prices v) (at_node b.net.supplies v) (net b.net.arcs own v))))
      ∙ (node_sum-sub (λ v. at_node prices v *ℤ at_node b.net.supplies v) (λ v. pos (artificial_cost b.net) *ℤ artificial_amount b v) (node_count b.net)
      ∙ ap (λ z. node_sum (λ v. at_node prices v *ℤ at_node b.net.supplies v) (node_count b.net) -ℤ z)
      (node_sum-mul (pos (artificial_cost b.net)) (artificial_amount b) (node_count b.net)))

  module _ (none : HasNoEligible b) (flow : List ℤ) (feasible : IsFeasible b.net flow) where
    -- the artificial arcs cost less than one unit along one of them does
    artificial_small : (pos (artificial_cost b.net) *ℤ node_sum (artificial_amount b) (node_count b.net)) <ℤ pos (artificial_cost b.net)
    artificial_small =
        let least : flow_sum paid b.net.arcs own ≤ℤ flow_sum paid b.net.arcs flow =
        flow_sum-le_two (IsComplementary prices) CanCarry paid paid
        (λ a f h t q. no_smaller (reduced_cost prices a) a.low a.cap f h t.0 t.1 q.0 q.1)
        b.net.arcs own flow (shows b ok none) feasible.within_bounds in
        let apart = costs_apart b.net.arcs own flow ok.of_net.each_arc (within b ok) feasible.within_bounds in
        omega (arith, ints, least, reduced_total b.net prices flow ok.of_net.ends feasible, own_total, supply_paid, apart)

    nothing_left : (v : ℕ) → IsNode (node_count b.net) v → artificial_amount b v ≡ pos 0
    nothing_left v h = elim (zero_or_more (artificial_amount b v) (artificial_low b ok v h)) [
      | inl z ↦ z
      | inr some ↦ absurd (let more = node_sum_above_zero (artificial_amount b) (node_count b.net) v h some (artificial_low b ok) in
          let times : (pos (artificial_cost b.net) *ℤ pos 1) ≤ℤ (pos (artificial_cost b.net) *ℤ node_sum (artificial_amount b) (node_count b.net)) =
          mul-mono (pos (artificial_cost b.net)) (pos 1) (node_sum (artificial_amount b) (node_count b.net))
          (omega (arith, ints)) (omega (arith, ints, more)) in
          omega (arith, ints, times, mul-one (pos (artificial_cost b.net)), artificial_small))
    ]

pub last_bases_are_feasible_lem : LastBasesAreFeasible
last_bases_are_feasible_lem b flow ok none feasible = nothing_left b ok none flow feasible
