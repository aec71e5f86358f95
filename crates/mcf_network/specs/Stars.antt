-- The residual arcs that leave a node, and how a net keeps them.
-- Source: AMO 2.3
use Rattle.std.specs.Prelude.{◌≡◌, ◌≢◌, ℕ, ◌+◌, ◌-◌, ◌≤◌, List, length, slice_index, slice_range}
use Rattle.std.specs.List.{All, AllPairs, Contains}
use Rattle.mcf_flows.specs.Network.{Network, IsArcNumber, IsNode, node_count}
use Rattle.mcf_network.specs.declared.rid.Rid.{Rid}
use Rattle.mcf_network.specs.Residual.{tail}

-- a residual arc of the network, and the node that it leaves
pub record Leaves (g : Network) (v : ℕ) (r : Rid) : Type 0 where
  pub arc : IsArcNumber g r.arc
  pub from : tail g r ≡ v

-- the list has each residual arc that leaves the node once, and nothing else
pub record ListsLeaving (g : Network) (v : ℕ) (list : List Rid) : Type 0 where
  pub each_leaves : All (Leaves g v) list
  pub every : (r : Rid) → Leaves g v r → Contains list r
  pub once : AllPairs (λ r q. r ≢ q) list

-- the forward star: residual arcs one node after another, and behind those of each node a gap, this
-- many entries that mean nothing; those of node v stand from firsts (v - 1) up to the gap that ends
-- at firsts v
pub record IsForwardStar (g : Network) (gap : ℕ) (firsts : List ℕ) (outs : List Rid) : Type 0 where
  pub count : length firsts ≡ node_count g + 1
  pub rises : (v : ℕ) → IsNode (node_count g) v → slice_index firsts (v - 1) + gap ≤ slice_index firsts v
  pub within : (v : ℕ) → IsNode (node_count g) v → slice_index firsts v ≤ length outs
  pub lists : (v : ℕ) → IsNode (node_count g) v → ListsLeaving g v (slice_range outs (slice_index firsts (v - 1)) (slice_index firsts v - gap))
