-- Spanning tree structures (Ahuja, Magnanti and Orlin, Network Flows, section 11.2): a spanning
-- tree of a net with its artificial arcs, an amount for each arc and a price for each node; and the
-- paths and cycles of the tree.
-- Source: AMO 11.2
use Rattle.std.specs.Prelude.{◌≡◌, ℕ, zero, suc, ◌-◌, ◌*◌, ◌^◌, ◌==◌, ◌≤◌, true, false, not, List, [], ◌∷◌, ◌++◌, length, take, ℤ, pos, ◌+ℤ◌, ◌-ℤ◌, ◌≤ℤ◌, slice_index_or}
use Rattle.mcf_flows.specs.Network.{Network, IsNode, node_count}
use Rattle.mcf_network.specs.declared.rid.Rid.{Rid}
use Rattle.mcf_network.specs.Residual.{arc_at, head, tail}
use Rattle.mcf_network.specs.States.{Pseudoflow, amount_at}
use Rattle.mcf_tree.specs.SpanningTree.{SpanningTree, depth_of, label_of, parent_of}
use Rattle.mcf_basis.specs.Artificial.{with_artificial}

-- the amounts are those of the arcs of the net, and then those of the artificial arcs; the prices
-- are those of the nodes from the root, node 0, on; priced counts the writes of a price, and pivots
-- the pivots that led here
pub record TreeStructure : Type 0 where
  pub net : Network
  pub tree : SpanningTree
  pub amounts : List ℤ
  pub prices : List ℤ
  pub priced : ℕ
  pub pivots : ℕ

-- the amounts as a state of the net with its artificial arcs
abbrev pub full_state : TreeStructure → Pseudoflow
full_state b = record { net = with_artificial b.net; amounts = b.amounts }

-- the amounts of the arcs of the net alone
abbrev pub state_of : TreeStructure → Pseudoflow
state_of b = record { net = b.net; amounts = take (length b.net.arcs) b.amounts }

-- the amount of the arc of this label
abbrev pub carried : TreeStructure → ℕ → ℤ
carried b label = amount_at (full_state b) label

-- the price of a node
abbrev pub price_at : TreeStructure → ℕ → ℤ
price_at b v = slice_index_or b.prices v (pos 0)

-- the cost of the arc of this label, less the price of the node that it leaves, plus the price of
-- the one that it enters
abbrev pub reduced_at : TreeStructure → ℕ → ℤ
reduced_at b label =
    let a = arc_at (with_artificial b.net) label in a.cost -ℤ price_at b a.src +ℤ price_at b a.dst

-- x more can go along a residual arc: forward up to the cap of an arc of the net, of an artificial
-- arc without a limit; backward as much as it carries
pub record CanTake (b : TreeStructure) (r : Rid) (x : ℤ) : Type 0 where
  pub forward : r.back ≡ false → r.arc ≤ length b.net.arcs → (carried b r.arc +ℤ x) ≤ℤ (arc_at b.net r.arc).cap
  pub backward : r.back ≡ true → x ≤ℤ carried b r.arc

-- the arc of this label joins u and v, in one direction or the other
pub data Joins (g : Network) (label u v : ℕ) : Type 0 where
  out_of : (arc_at (with_artificial g) label).src ≡ u → (arc_at (with_artificial g) label).dst ≡ v → Joins g label u v
  into : (arc_at (with_artificial g) label).src ≡ v → (arc_at (with_artificial g) label).dst ≡ u → Joins g label u v

-- the label is that of the arc between a node and its parent
pub record IsInTree (b : TreeStructure) (label : ℕ) : Type 0 where
  pub node : ℕ
  pub is_node : IsNode (node_count b.net) node
  pub labelled : label_of b.tree node ≡ label

-- ---- limits

-- how far from 0 the price of a node of a basis lies at most
abbrev pub price_limit : ℕ
price_limit = 3 * 10 ^ 36

-- how far from 0 a reduced cost lies at most: the cost of an arc and two prices
abbrev pub reduced_limit : ℕ
reduced_limit = 7 * 10 ^ 36

-- ---- paths and cycles

-- the residual arc of this label that leaves node v
abbrev pub leaving : Network → ℕ → ℕ → Rid
leaving g label v = record { arc = label; back = not ((arc_at (with_artificial g) label).src == v) }

-- the residual arcs from v up to the node k steps toward the root
abbrev pub up_path : TreeStructure → ℕ → ℕ → List Rid
up_path b zero v = []
up_path b (suc k) v = leaving b.net (label_of b.tree v) v ∷ up_path b k (parent_of b.tree v)

-- and those back down from there to v
abbrev pub down_path : TreeStructure → ℕ → ℕ → List Rid
down_path b zero v = []
down_path b (suc k) v =
    down_path b k (parent_of b.tree v) ++ leaving b.net (label_of b.tree v) (parent_of b.tree v) ∷ []

-- how many steps lead from v up to w
abbrev pub steps_between : TreeStructure → ℕ → ℕ → ℕ
steps_between b v w = depth_of b.tree v - depth_of b.tree w

-- the cycle that a residual arc closes with the tree, in its direction: from the apex w down to its
-- tail, over it, and up to the apex
abbrev pub cycle_of : TreeStructure → Rid → ℕ → List Rid
cycle_of b r w =
    let g = with_artificial b.net in
    down_path b (steps_between b (tail g r) w) (tail g r) ++ r ∷ up_path b (steps_between b (head g r) w) (head g r)
