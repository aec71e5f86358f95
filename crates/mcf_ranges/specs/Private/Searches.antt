-- A search for a distance (Dijkstra): keys of nodes, some of which wait, and marks of those that
-- are settled.
use Rattle.std.specs.Prelude.{◌≡◌, ℕ, ◌*◌, ◌^◌, true, false, Bool, List, ◌∷◌, length, ℤ, pos, ◌+ℤ◌, ◌≤ℤ◌, ◌⊎◌}
use Rattle.std.specs.List.{All, Contains}
use Rattle.mcf_flows.specs.Blocking.{in_table}
use Rattle.mcf_flows.specs.Network.{Network, IsNode, at_node, node_count}
use Rattle.mcf_network.specs.declared.rid.Rid.{Rid}
use Rattle.mcf_network.specs.NodeSets.{member_count}
use Rattle.mcf_network.specs.Residual.{head, tail}
use Rattle.mcf_engine.specs.Heaps.{Keyed, Waits}
use Rattle.mcf_ranges.specs.Private.Distances.{IsOpen, IsPath, length_of}

-- the greatest length of a residual arc
abbrev pub length_limit : ℕ
length_limit = 10 ^ 22

-- the greatest distance
abbrev pub distance_limit : ℕ
distance_limit = 10 ^ 28

-- what is searched: a network with a flow and prices, arc k left out, from node u to node w
pub record Task : Type 0 where
  pub network : Network
  pub flow : List ℤ
  pub prices : List ℤ
  pub k : ℕ
  pub u : ℕ
  pub w : ℕ

-- the node is settled
abbrev pub IsSettled : List Bool → ℕ → Type 0
IsSettled marks v = in_table marks v ≡ true

-- the node is settled, or waits: so its key is the length of a path
abbrev pub IsReached : Keyed → List Bool → ℕ → Type 0
IsReached h marks v = IsSettled marks v ⊎ Waits h v

-- a path to the node, as long as its key, that leaves settled nodes alone
pub record HasPath (t : Task) (h : Keyed) (marks : List Bool) (v : ℕ) : Type 0 where
  pub walk : List Rid
  pub path : IsPath t.network t.flow t.prices t.k t.u v walk (at_node h.keys v)
  pub settled : All (λ r. IsSettled marks (tail t.network r)) walk

-- the head of a residual arc is reached, with a key that is no more than by that arc
pub record IsRelaxed (t : Task) (h : Keyed) (marks : List Bool) (r : Rid) : Type 0 where
  pub reached : IsReached h marks (head t.network r)
  pub key : at_node h.keys (head t.network r) ≤ℤ (at_node h.keys (tail t.network r) +ℤ length_of t.network t.prices r)

-- the keys of a search: open arcs that leave settled nodes are relaxed, but for a rest
pub record IsSearch (t : Task) (h : Keyed) (marks : List Bool) (rest : List Rid) : Type 0 where
  pub key_count : length h.keys ≡ node_count t.network
  pub waiting_count : length h.waiting ≡ node_count t.network
  pub mark_count : length marks ≡ node_count t.network
  pub source : IsSettled marks t.u
  pub source_key : at_node h.keys t.u ≡ pos 0
  pub target : in_table marks t.w ≡ false
  pub apart : (v : ℕ) → IsNode (node_count t.network) v → IsSettled marks v → in_table h.waiting v ≡ false
  pub paths : (v : ℕ) → IsNode (node_count t.network) v → IsReached h marks v → HasPath t h marks v
  pub low : (v : ℕ) → IsNode (node_count t.network) v → IsReached h marks v → pos 0 ≤ℤ at_node h.keys v
  pub small : (v : ℕ) → IsNode (node_count t.network) v → IsReached h marks v → at_node h.keys v ≤ℤ pos (length_limit * member_count marks)
  pub smaller : (v : ℕ) → IsNode (node_count t.network) v → IsSettled marks v → (at_node h.keys v +ℤ pos length_limit) ≤ℤ pos (length_limit * member_count marks)
  pub level : (v a : ℕ) → IsNode (node_count t.network) v → IsNode (node_count t.network) a → IsSettled marks v → Waits h a → at_node h.keys v ≤ℤ at_node h.keys a
  pub relaxed : (r : Rid) → IsOpen t.network t.flow t.k r → IsSettled marks (tail t.network r) → IsRelaxed t h marks r ⊎ Contains rest r

-- the node was settled last: no settled node has a greater key
pub record IsLast (t : Task) (h : Keyed) (marks : List Bool) (v : ℕ) : Type 0 where
  pub is_node : IsNode (node_count t.network) v
  pub settled : IsSettled marks v
  pub last : (a : ℕ) → IsNode (node_count t.network) a → IsSettled marks a → at_node h.keys a ≤ℤ at_node h.keys v

-- the keys of settled nodes stay
abbrev pub KeepsSettled : Task → List Bool → Keyed → Keyed → Type 0
KeepsSettled t marks old new = (v : ℕ) → IsNode (node_count t.network) v → IsSettled marks v → at_node new.keys v ≡ at_node old.keys v

-- a residual arc was relaxed: the search goes on with whatever is still to come after it
pub record IsStep (t : Task) (old new : Keyed) (marks : List Bool) (r : Rid) : Type 0 where
  pub search : (rest : List Rid) → IsSearch t old marks (r ∷ rest) → IsSearch t new marks rest
  pub keeps : KeepsSettled t marks old new
