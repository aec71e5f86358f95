-- What a search from the nodes with a surplus keeps, and what it finds.
use Rattle.std.specs.Prelude.{◌≡◌, ◌≢◌, ℕ, ◌<◌, ◌≤◌, ◌-◌, Bool, true, List, length, ℤ, pos, ◌+ℤ◌, ◌≤ℤ◌, ◌<ℤ◌, ◌⊎◌, Option, Some, None, slice_index_or}
use Rattle.std.specs.List.{Any}
use Rattle.mcf_flows.specs.Blocking.{in_table}
use Rattle.mcf_flows.specs.Network.{IsNode, node_count}
use Rattle.mcf_network.specs.declared.rid.Rid.{Rid}
use Rattle.mcf_network.specs.NodeSets.{member_count}
use Rattle.mcf_network.specs.Residual.{tail, head}
use Rattle.mcf_network.specs.States.{Pseudoflow, IsPseudoflow, MovesSurplus, room_of, surplus_at}
use Rattle.mcf_network.specs.Walks.{CanPushAlong, HasRoom, IsWalk, pushed_along}
use Rattle.mcf_feas.specs.declared.path_search.Predecessor.{Predecessor}
use Rattle.mcf_feas.specs.declared.path_search.Visit.{Visit}

-- the visit at a place, from 0
abbrev pub visit_at : List Visit → ℕ → Visit
visit_at visits i = slice_index_or visits i (record { node = 0; predecessor = None })

-- the node of that visit
abbrev pub node_at : List Visit → ℕ → ℕ
node_at visits i = (visit_at visits i).node

-- a residual arc with room leads from the node at an earlier place to the one at this place
pub record IsPredecessor (s : Pseudoflow) (visits : List Visit) (i : ℕ) (l : Predecessor) : Type 0 where
  pub earlier : l.place < i
  pub room : HasRoom s l.along
  pub from : tail s.net l.along ≡ node_at visits l.place
  pub to : head s.net l.along ≡ node_at visits i

-- a residual arc with room, and the node that it enters
pub record LeadsTo (s : Pseudoflow) (r : Rid) (v : ℕ) : Type 0 where
  pub room : HasRoom s r
  pub end : head s.net r ≡ v
  pub is_node : IsNode (node_count s.net) v

-- how a search came to the node at a place: it has a surplus, or a predecessor
abbrev pub IsReachedBy : Pseudoflow → List Visit → ℕ → Option Predecessor → Type 0
IsReachedBy s visits i None = pos 0 <ℤ surplus_at s (node_at visits i)
IsReachedBy s visits i (Some l) = IsPredecessor s visits i l

-- the nodes visited, each once, and how a search came to each
pub record IsForest (s : Pseudoflow) (visits : List Visit) : Type 0 where
  pub are_nodes : (i : ℕ) → i < length visits → IsNode (node_count s.net) (node_at visits i)
  pub distinct : (i j : ℕ) → i < j → j < length visits → node_at visits i ≢ node_at visits j
  pub reached : (i : ℕ) → i < length visits → IsReachedBy s visits i (visit_at visits i).predecessor

-- the table marks the nodes visited
pub record IsPathSearch (s : Pseudoflow) (table : List Bool) (visits : List Visit) : Type 0 where
  pub forest : IsForest s visits
  pub nodes : length table ≡ node_count s.net
  pub count : length visits ≡ member_count table
  pub marked : (i : ℕ) → i < length visits → in_table table (node_at visits i) ≡ true
  pub every : (v : ℕ) → IsNode (node_count s.net) v → in_table table v ≡ true → (i : ℕ) × (i < length visits) × (node_at visits i ≡ v)

-- so far no visited node takes anything, and the residual arcs with room that leave the first of
-- them lead to visited nodes
pub record IsScanned (s : Pseudoflow) (table : List Bool) (visits : List Visit) (scanned : ℕ) : Type 0 where
  pub search : IsPathSearch s table visits
  pub within : scanned ≤ length visits
  pub no_deficit : (i : ℕ) → i < length visits → pos 0 ≤ℤ surplus_at s (node_at visits i)
  pub closed : (i : ℕ) → i < scanned → (r : Rid) → HasRoom s r → tail s.net r ≡ node_at visits i → in_table table (head s.net r) ≡ true

-- the last visited node takes
pub record IsFound (s : Pseudoflow) (visits : List Visit) : Type 0 where
  pub forest : IsForest s visits
  pub some : 0 < length visits
  pub deficit : surplus_at s (node_at visits (length visits - 1)) <ℤ pos 0

-- x is all that a path from node u to node w takes: all that u has, all that w takes, or all the
-- room of an arc
abbrev pub TakesAll : Pseudoflow → ℕ → List Rid → ℕ → ℤ → Type 0
TakesAll s u path w x = (x ≡ surplus_at s u) ⊎ ((x +ℤ surplus_at s w ≡ pos 0) ⊎ Any (λ r. x ≡ room_of s r) path)

-- a path to node w along which x can go and no more: as much as a node with a surplus has, and as w
-- takes
pub record IsPath (s : Pseudoflow) (path : List Rid) (w : ℕ) (x : ℤ) : Type 0 where
  pub source : ℕ
  pub is_node : IsNode (node_count s.net) source
  pub walk : IsWalk s.net source path w
  pub can : CanPushAlong s path x
  pub positive : pos 0 <ℤ x
  pub held : x ≤ℤ surplus_at s source
  pub taken : (x +ℤ surplus_at s w) ≤ℤ pos 0
  pub most : TakesAll s source path w x

-- a part of the surplus of one node moved to one that takes it, as much as a path between them
-- takes
pub record IsAugmented (s s' : Pseudoflow) : Type 0 where
  pub net : s'.net ≡ s.net
  pub flow : IsPseudoflow s'
  pub source : ℕ
  pub target : ℕ
  pub amount : ℤ
  pub is_node : IsNode (node_count s.net) source
  pub positive : pos 0 <ℤ amount
  pub held : amount ≤ℤ surplus_at s source
  pub taken : (amount +ℤ surplus_at s target) ≤ℤ pos 0
  pub moves : MovesSurplus s s' source target amount
  pub path : List Rid
  pub walk : IsWalk s.net source path target
  pub pushed : s' ≡ pushed_along s path amount
  pub most : TakesAll s source path target amount
