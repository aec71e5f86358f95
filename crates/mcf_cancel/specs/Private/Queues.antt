-- The nodes whose price fell, which wait for the next round.
use Rattle.std.specs.Prelude.{◌≡◌, ℕ, ◌≤◌, Bool, true, List, [], ◌∷◌, ◌++◌, length, if◌then◌else◌}
use Rattle.std.specs.List.{All, Contains}
use Rattle.mcf_flows.specs.Blocking.{in_table}
use Rattle.mcf_flows.specs.Limits.{node_limit}
use Rattle.mcf_flows.specs.Network.{IsNode}
use Rattle.mcf_network.specs.NodeSets.{member_count, no_nodes, with_node}

-- a table of the nodes, and a list of those that wait
pub record Waiting : Type 0 where
  pub table : List Bool
  pub nodes : List ℕ

-- the table marks the nodes that wait, and each waits once
pub record IsQueue (q : Waiting) : Type 0 where
  pub limit : length q.table ≤ node_limit
  pub are_nodes : All (IsNode (length q.table)) q.nodes
  pub count : length q.nodes ≡ member_count q.table
  pub marked : (v : ℕ) → IsNode (length q.table) v → in_table q.table v ≡ true → Contains q.nodes v

-- nobody of this many nodes waits
abbrev pub no_queue : ℕ → Waiting
no_queue nodes = record { table = no_nodes nodes; nodes = [] }

-- node v waits too
abbrev pub queued : Waiting → ℕ → Waiting
queued q v = if in_table q.table v then q else record { table = with_node q.table v; nodes = q.nodes ++ v ∷ [] }
