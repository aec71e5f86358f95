-- Where the prices of a basis lie.
use Rattle.std.proofs.Common.{◌≡◌, ℕ, zero, suc, ◌+◌, ◌-◌, ◌*◌, ◌<◌, ◌≤◌, ◌⊎◌, inl, inr, ap, ◌∙◌, arith, subst, sym, ℤ, pos}
use Rattle.std.proofs.Common.{◌+ℤ◌, ◌-ℤ◌}
use Rattle.std.proofs.lemmas.Int.{ints}
use Rattle.std.proofs.Math.Nat.{mul-le-mul, mul-le-mul_left}
use Rattle.std.proofs.lemmas.Bool.{cases_eq}
use Rattle.mcf_flows.specs.Limits.{node_limit}
use Rattle.mcf_flows.specs.Network.{Network, IsArcNumber, IsNode, node_count}
use Rattle.mcf_flows.specs.WellFormed.{IsUpTo}
use Rattle.mcf_flows.proofs.Bounds.{up_to_size}
use Rattle.mcf_network.specs.Nets.{IsNet, greatest_cost}
use Rattle.mcf_network.specs.Residual.{no_arc, arc_at}
use Rattle.mcf_network.proofs.Costs.{greatest_small, size_within}
use Rattle.mcf_tree.specs.SpanningTree.{depth_of, label_of, parent_of, size_of}
use Rattle.mcf_tree.proofs.Meeting.{path_place}
use Rattle.mcf_tree.specs.Rooted.{climb, IsOnPath}
use Rattle.mcf_tree.proofs.Paths.{climb-root, root_from_depth}
use Rattle.mcf_tree.proofs.Depths.{depth-lt}
use Rattle.mcf_basis.specs.Artificial.{artificial_cost, with_artificial}
use Rattle.mcf_basis.specs.Bases.{HasTreeArc, IsBasis}
use Rattle.mcf_basis.specs.Ranks.{price_reach}
use Rattle.mcf_basis.specs.Structures.{TreeStructure, Joins, price_at, reduced_at, price_limit}
use Rattle.mcf_basis.specs.Structures.Joins.{out_of, into}
use Rattle.mcf_basis.proofs.Labels.{own_arc, root_arc, inner_arc}
use Rattle.mcf_basis.proofs.StrongPivot.{step_at}

-- one step away from a node whose price lies near a number
pub one_step : (b : TreeStructure) (label u v near far : ℕ) (z : ℤ) → Joins b.net label u v → reduced_at b label ≡ pos 0
    → IsUpTo near (arc_at (with_artificial b.net) label).cost → IsUpTo far (price_at b v -ℤ z) → IsUpTo (near + far) (price_at b u -ℤ z)
one_step b label u v near far z (out_of s d) r c p =
    let e : ((arc_at (with_artificial b.net) label).cost -ℤ price_at b u) +ℤ price_at b v ≡ pos 0 = rw (s, d) at r in
    (omega (arith, ints), omega (arith, ints))
one_step b label u v near far z (into s d) r c p =
    let e : ((arc_at (with_artificial b.net) label).cost -ℤ price_at b v) +ℤ price_at b u ≡ pos 0 = rw (s, d) at r in
    (omega (arith, ints), omega (arith, ints))

-- a price near the artificial cost, or near its opposite
abbrev pub IsNear : ℕ → ℕ → ℤ → Type 0
IsNear cost far p = IsUpTo far (p -ℤ pos cost) ⊎ IsUpTo far (p +ℤ pos cost)

-- the child of the root on the path from a node
abbrev pub top : TreeStructure → ℕ → ℕ
top b v = climb b.tree.parents (depth_of b.tree v - 1) v

-- the price of a child of the root
root_step : (b : TreeStructure) (label u : ℕ) → Joins b.net label u 0 → reduced_at b label ≡ pos 0 → price_at b 0 ≡ pos 0 →
    (arc_at (with_artificial b.net) label).cost ≡ pos (artificial_cost b.net) → IsNear (artificial_cost b.net) 0 (price_at b u)
root_step b label u (out_of s d) r p c =
    let e : ((arc_at (with_artificial b.net) label).cost -ℤ price_at b u) +ℤ price_at b 0 ≡ pos 0 = rw (s, d) at r in
    inl (omega (arith, ints), omega (arith, ints))
root_step b label u (into s d) r p c =
    let e : ((arc_at (with_artificial b.net) label).cost -ℤ price_at b 0) +ℤ price_at b u ≡ pos 0 = rw (s, d) at r in
    inr (omega (arith, ints), omega (arith, ints))

module _ (b : TreeStructure) (ok : IsBasis b) where
  pub in_tree : (v : ℕ) → v ≤ node_count b.net → v < size_of b.tree
  in_tree v h = omega (arith, h, ok.size)

  pub parent_in : (v : ℕ) → v ≤ node_count b.net → parent_of b.tree v ≤ node_count b.net
  parent_in v h = omega (arith, ok.size, ok.spanning.rooted.within v (in_tree v h))

  -- the arc above a node whose parent isn't the root
  inner_step : (v far : ℕ) (z : ℤ) → 0 < v → v ≤ node_count b.net → 0 < parent_of b.tree v → IsUpTo far (price_at b (parent_of b.tree v) -ℤ z)
      → IsUpTo (greatest_cost b.net.arcs + far) (price_at b v -ℤ z)
  inner_step v far z up h high p =
      let arc : HasTreeArc b v = ok.tree_arcs v (omega arith, h) in
      let own : IsArcNumber b.net (label_of b.tree v) = inner_arc b.net (label_of b.tree v) v (parent_of b.tree v) arc.label up high arc.joins in
      let same = ap (λ a. a.cost) (own_arc b.net (label_of b.tree v) own) in
      let small = size_within b.net.arcs (label_of b.tree v - 1) no_arc (omega arith) in
      let near = up_to_size (arc_at b.net (label_of b.tree v)).cost in
      one_step b (label_of b.tree v) v (parent_of b.tree v) (greatest_cost b.net.arcs) far z arc.joins (ok.prices.balanced v (omega arith, h))
      (omega (arith, ints), omega (arith, ints)) p

  below_root : (k v : ℕ) → 0 < climb b.tree.parents k v → 0 < v
  below_root k v low = elim (cases_eq v 0) [
    | inl z ↦ absurd (let e = ap (climb b.tree.parents k) z ∙ climb-root b.tree.parents (depth_of b.tree) ok.spanning.rooted k in omega (arith, e, low))
    | inr nz ↦ omega (arith, nz)
  ]

  -- along a path toward the root, short of it, a price changes by at most the greatest cost a step
  climb_price : (k v : ℕ) → v ≤ node_count b.net → 0 < climb b.tree.parents k v
      → IsUpTo (k * greatest_cost b.net.arcs) (price_at b v -ℤ price_at b (climb b.tree.parents k v))
  climb_price zero v h low = (omega (arith, ints), omega (arith, ints))
  climb_price (suc k) v h low =
      let high : 0 < parent_of b.tree v = below_root k (parent_of b.tree v) low in
      let up : 0 < v = below_root (suc k) v low in
      let n : suc k * greatest_cost b.net.arcs ≡ greatest_cost b.net.arcs + k * greatest_cost b.net.arcs = omega arith in
      rw n (inner_step v (k * greatest_cost b.net.arcs) (price_at b (climb b.tree.parents k (parent_of b.tree v))) up h high
      (climb_price k (parent_of b.tree v) (parent_in v h) low))

  short : (k v : ℕ) → v ≤ node_count b.net → k ≤ depth_of b.tree v → k * greatest_cost b.net.arcs ≤ node_count b.net * greatest_cost b.net.arcs
  short k v h le =
      let deep : depth_of b.tree v < size_of b.tree = depth-lt b.tree.parents (depth_of b.tree) ok.spanning.rooted v (in_tree v h) in
      mul-le-mul (omega (arith, ok.size, deep, le)) (omega arith)

  -- below a node other than the root, prices lie near its price
  pub below_price : (out v : ℕ) → 0 < out → v ≤ node_count b.net → IsOnPath b.tree.parents v out
      → IsUpTo (node_count b.net * greatest_cost b.net.arcs) (price_at b v -ℤ price_at b out)
  below_price out v up h on =
      let p = path_place b.tree.parents (depth_of b.tree) ok.spanning.rooted v out (in_tree v h) on in
      let low : 0 < climb b.tree.parents (depth_of b.tree v - depth_of b.tree out) v = subst (λ w. 0 < w) (sym p.1) up in
      let c = climb_price (depth_of b.tree v - depth_of b.tree out) v h low in
      let q : IsUpTo ((depth_of b.tree v - depth_of b.tree out) * greatest_cost b.net.arcs) (price_at b v -ℤ price_at b out) = rw p.1 at c in
      let le = short (depth_of b.tree v - depth_of b.tree out) v h (omega arith) in
      (omega (arith, ints, q, le), omega (arith, ints, q, le))

  -- the price of the child of the root on the path from a node
  pub top_near : (v : ℕ) → 0 < v → v ≤ node_count b.net → IsNear (artificial_cost b.net) 0 (price_at b (top b v))
  top_near v up h =
      let f = ok.spanning.rooted.falls v up (in_tree v h) in
      let w = step_at ok.spanning.rooted v (depth_of b.tree v) (depth_of b.tree v - 1) (in_tree v h) (omega arith) (omega (arith, f)) in
      let g = ok.spanning.rooted.falls (top b v) w.above w.within in
      let z : parent_of b.tree (top b v) ≡ 0 = root_from_depth b.tree.parents (depth_of b.tree) ok.spanning.rooted (parent_of b.tree (top b v))
      (ok.spanning.rooted.within (top b v) w.within) (omega (arith, f, g, w.deep)) in
      let node : IsNode (node_count b.net) (top b v) = (w.above, omega (arith, ok.size, w.within)) in
      let arc : HasTreeArc b (top b v) = ok.tree_arcs (top b v) node in
      let joins : Joins b.net (label_of b.tree (top b v)) (top b v) 0 = subst (Joins b.net (label_of b.tree (top b v)) (top b v)) z arc.joins in
      root_step b (label_of b.tree (top b v)) (top b v) joins (ok.prices.balanced (top b v) node) ok.prices.root
      (root_arc b.net (label_of b.tree (top b v)) (top b v) ok.of_net arc.label w.above joins)

  -- each price but that of the root lies near the artificial cost, or near its opposite
  pub near_price : (v : ℕ) → 0 < v → v ≤ node_count b.net → IsNear (artificial_cost b.net) (node_count b.net * greatest_cost b.net.arcs) (price_at b v)
  near_price v up h =
      let f = ok.spanning.rooted.falls v up (in_tree v h) in
      let w = step_at ok.spanning.rooted v (depth_of b.tree v) (depth_of b.tree v - 1) (in_tree v h) (omega arith) (omega (arith, f)) in
      let c = climb_price (depth_of b.tree v - 1) v h w.above in
      let le = short (depth_of b.tree v - 1) v h (omega arith) in
      elim (top_near v up h) [
        | inl t ↦ inl (omega (arith, ints, c, le, t), omega (arith, ints, c, le, t))
        | inr t ↦ inr (omega (arith, ints, c, le, t), omega (arith, ints, c, le, t))
      ]

  -- the bound that the ranks count with
  pub price_reached : (v : ℕ) → v ≤ node_count b.net → IsUpTo (price_reach b.net) (price_at b v)
  price_reached v h =
      elim (cases_eq v 0) [
        | inl z ↦ (let p : price_at b v ≡ pos 0 = ap (price_at b) z ∙ ok.prices.root in (omega (arith, ints), omega (arith, ints)))
        | inr nz ↦ elim (near_price v (omega (arith, nz)) h) [
          | inl p ↦ (omega (arith, ints, p), omega (arith, ints, p))
          | inr p ↦ (omega (arith, ints, p), omega (arith, ints, p))
        ]
      ]

-- within the limits of nets a price fits 128 bits, with much to spare
pub reach_small : (g : Network) → IsNet g → price_reach g ≤ price_limit
reach_small g ok =
    let a : node_count g * greatest_cost g.arcs ≤ node_limit * greatest_cost g.arcs = mul-le-mul ok.nodes (omega arith) in
    omega (arith, ok.total, a, mul-le-mul_left node_limit (greatest_small g.arcs ok.each_arc))

pub price_small : (b : TreeStructure) → IsBasis b → (v : ℕ) → v ≤ node_count b.net → IsUpTo price_limit (price_at b v)
price_small b ok v h =
    let p = price_reached b ok v h in
    let small = reach_small b.net ok.of_net in (omega (arith, ints, p, small), omega (arith, ints, p, small))
