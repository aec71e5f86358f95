-- Bases (Ahuja, Magnanti and Orlin, Network Flows, sections 11.2 and 11.6).
-- Source: AMO 11.2, 11.6
use Rattle.std.specs.Prelude.{◌≡◌, ℕ, ◌+◌, ◌≤◌, ◌⊎◌, length, ℤ, pos, ◌≤ℤ◌}
use Rattle.std.specs.List.{All}
use Rattle.mcf_flows.specs.Network.{Network, IsNode, node_count}
use Rattle.mcf_network.specs.Nets.{IsNet}
use Rattle.mcf_network.specs.Residual.{arc_at}
use Rattle.mcf_network.specs.States.{Pseudoflow, HasNoSurplus, amount_at}
use Rattle.mcf_tree.specs.SpanningTree.{IsSpanning, depth_of, label_of, parent_of, size_of}
use Rattle.mcf_basis.specs.Artificial.{IsLabel, with_artificial}
use Rattle.mcf_basis.specs.Structures.{TreeStructure, CanTake, IsInTree, Joins, carried, full_state, price_at, reduced_at, up_path}

-- an amount that the arc of this label can carry: at least 0, and, on an arc of the net, at most
-- its cap
pub record CanHold (g : Network) (label : ℕ) (x : ℤ) : Type 0 where
  pub low : pos 0 ≤ℤ x
  pub high : label ≤ length g.arcs → x ≤ℤ (arc_at g label).cap

-- an amount within its bounds for each arc, such that no node has a surplus: a flow that the
-- artificial arcs make feasible
pub record IsFullFlow (s : Pseudoflow) (g : Network) : Type 0 where
  pub of_net : s.net ≡ with_artificial g
  pub one_per_label : length s.amounts ≡ length (with_artificial g).arcs
  pub within_bounds : (label : ℕ) → IsLabel g label → CanHold g label (amount_at s label)
  pub no_surplus : HasNoSurplus s

-- nothing, or, on an arc of the net, all that it can carry
abbrev pub IsAtBound : TreeStructure → ℕ → Type 0
IsAtBound b label =
    (carried b label ≡ pos 0) ⊎ ((label ≤ length b.net.arcs) × (carried b label ≡ (arc_at b.net label).cap))

-- the label above node v is that of an arc, which joins v and its parent
pub record HasTreeArc (b : TreeStructure) (v : ℕ) : Type 0 where
  pub label : IsLabel b.net (label_of b.tree v)
  pub joins : Joins b.net (label_of b.tree v) v (parent_of b.tree v)

-- the root has price 0, and the arcs of the tree have reduced cost 0
pub record HasTreePrices (b : TreeStructure) : Type 0 where
  pub one_per_node : length b.prices ≡ node_count b.net + 1
  pub root : price_at b 0 ≡ pos 0
  pub balanced : (v : ℕ) → IsNode (node_count b.net) v → reduced_at b (label_of b.tree v) ≡ pos 0

-- strongly feasible (Cunningham): from each node one more can go along the path of the tree to the
-- root
abbrev pub IsStronglyFeasible : TreeStructure → Type 0
IsStronglyFeasible b =
    (v : ℕ) → IsNode (node_count b.net) v → All (λ r. CanTake b r (pos 1)) (up_path b (depth_of b.tree v) v)

-- a spanning tree over the root and the nodes; amounts within bounds, with which no node has a
-- surplus; each arc outside the tree at a bound, an artificial one at 0; the prices of the tree;
-- and strong feasibility
pub record IsBasis (b : TreeStructure) : Type 0 where
  pub of_net : IsNet b.net
  pub spanning : IsSpanning b.tree
  pub size : size_of b.tree ≡ node_count b.net + 1
  pub tree_arcs : (v : ℕ) → IsNode (node_count b.net) v → HasTreeArc b v
  pub flow : IsFullFlow (full_state b) b.net
  pub at_bounds : (label : ℕ) → IsLabel b.net label → ¬ IsInTree b label → IsAtBound b label
  pub prices : HasTreePrices b
  pub strong : IsStronglyFeasible b
