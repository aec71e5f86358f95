-- Nodes that wait, first in, first out.
use Rattle.std.specs.Prelude.{◌≡◌, ◌≢◌, ℕ, ◌-◌, ◌≤◌, Bool, true, false, List, [], ◌∷◌, ◌++◌, length, if◌then◌else◌, slice_set, pos, ◌<ℤ◌}
use Rattle.std.specs.List.{All, AllPairs, Contains}
use Rattle.mcf_flows.specs.Blocking.{in_table}
use Rattle.mcf_flows.specs.Limits.{node_limit}
use Rattle.mcf_flows.specs.Network.{IsNode, node_count}
use Rattle.mcf_network.specs.States.{Pseudoflow, surplus_at}
use Rattle.mcf_network.specs.NodeSets.{member_count, no_nodes, with_node}

-- a table of the nodes, and those that wait, in order
pub record Waiting : Type 0 where
  pub table : List Bool
  pub nodes : List ℕ

-- the table marks the nodes that wait, and each waits once
pub record IsQueue (q : Waiting) : Type 0 where
  pub limit : length q.table ≤ node_limit
  pub are_nodes : All (IsNode (length q.table)) q.nodes
  pub count : length q.nodes ≡ member_count q.table
  pub once : AllPairs (λ v w. v ≢ w) q.nodes
  pub marked : (v : ℕ) → IsNode (length q.table) v → in_table q.table v ≡ true → Contains q.nodes v
  pub waits : All (λ v. in_table q.table v ≡ true) q.nodes

-- nobody of this many nodes waits
abbrev pub no_queue : ℕ → Waiting
no_queue nodes = record { table = no_nodes nodes; nodes = [] }

-- node v waits too, at the end
abbrev pub queued : Waiting → ℕ → Waiting
queued q v = if in_table q.table v then q else record { table = with_node q.table v; nodes = q.nodes ++ v ∷ [] }

-- the first, v, is gone
pub record IsPopped (old new : Waiting) (v : ℕ) : Type 0 where
  pub nodes : old.nodes ≡ v ∷ new.nodes
  pub table : new.table ≡ slice_set old.table (v - 1) false

-- the queue of a state: each node with a surplus waits
pub record HoldsActive (s : Pseudoflow) (q : Waiting) : Type 0 where
  pub queue : IsQueue q
  pub size : length q.table ≡ node_count s.net
  pub every : (v : ℕ) → IsNode (node_count s.net) v → pos 0 <ℤ surplus_at s v → Contains q.nodes v

-- and the first has one
pub record IsQueueOf (s : Pseudoflow) (q : Waiting) : Type 0 where
  pub holds : HoldsActive s q
  pub front : (v : ℕ) (rest : List ℕ) → q.nodes ≡ v ∷ rest → pos 0 <ℤ surplus_at s v
