-- A walk along the links of the labels, in search of a cycle.
use Rattle.std.specs.Prelude.{◌≡◌, ◌≢◌, ℕ, ◌<◌, ◌*◌, List, length, Bool, true, Some, None, pos, neg_ℤ, ◌≤ℤ◌, ◌⊎◌}
use Rattle.std.specs.List.{All, AllPairs, HoldsAt}
use Rattle.mcf_flows.specs.Blocking.{in_table}
use Rattle.mcf_flows.specs.Network.{Network, IsNode, at_node, node_count}
use Rattle.mcf_network.specs.declared.rid.Rid.{Rid}
use Rattle.mcf_network.specs.NodeSets.{member_count}
use Rattle.mcf_network.specs.Residual.{tail}
use Rattle.mcf_network.specs.Walks.{HasRoom}
use Rattle.mcf_cancel.specs.Private.Labels.{Labels, link_at}
use Rattle.mcf_engine.specs.Respecting.{cost_limit}

-- the residual arc is the link of its tail
pub record IsStep (l : Labels) (r : Rid) : Type 0 where
  pub link : link_at l (tail l.flow.net r) ≡ Some r
  pub is_node : IsNode (length l.links) (tail l.flow.net r)
  pub has_room : HasRoom l.flow r

-- one of the residual arcs leaves this node
abbrev pub HasTail : Network → List Rid → ℕ → Type 0
HasTail g path v = (k : ℕ) × (k < length path) × HoldsAt (λ r. tail g r ≡ v) path k

-- what is known of the nodes that were seen and of those that are done
pub record IsTrail (l : Labels) (path : List Rid) (marks others : List Bool) : Type 0 where
  pub seen_count : length marks ≡ node_count l.flow.net
  pub done_count : length others ≡ node_count l.flow.net
  pub steps : All (IsStep l) path
  pub distinct : AllPairs (λ r q. tail l.flow.net r ≢ tail l.flow.net q) path
  pub path_seen : All (λ r. in_table marks (tail l.flow.net r) ≡ true) path
  pub seen : (v : ℕ) → IsNode (length marks) v → in_table marks v ≡ true → (in_table others v ≡ true) ⊎ ((link_at l v ≡ None) ⊎ HasTail l.flow.net path v)

-- the price of a node that is done is at most the greatest cost below 0 for each done node
pub record IsDone (l : Labels) (done : List Bool) : Type 0 where
  pub count : length done ≡ node_count l.flow.net
  pub floor : (v : ℕ) → IsNode (length done) v → in_table done v ≡ true → neg_ℤ (pos (cost_limit * member_count done)) ≤ℤ at_node l.prices v

-- a node that is done, or has no link
abbrev pub IsSettled : Labels → List Bool → ℕ → Type 0
IsSettled l done v = (in_table done v ≡ true) ⊎ (link_at l v ≡ None)
