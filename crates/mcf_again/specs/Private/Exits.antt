-- Why prices that show a flow are the greatest: from each node below 0 a walk of residual arcs of
-- reduced cost 0 leads to a node of price 0 (Ahuja, Magnanti and Orlin, Network Flows, section
-- 4.2).
use Rattle.std.specs.Prelude.{◌≡◌, ◌⊎◌, ℕ, ◌-◌, ◌<◌, List, ℤ, pos, ◌+ℤ◌, ◌≤ℤ◌, ◌<ℤ◌, slice_index_or}
use Rattle.mcf_flows.specs.Network.{at_node}
use Rattle.mcf_network.specs.declared.rid.Rid.{Rid}
use Rattle.mcf_network.specs.Residual.{tail, head, unit_cost}
use Rattle.mcf_network.specs.States.{Pseudoflow}
use Rattle.mcf_network.specs.Walks.{HasRoom}

-- the rank of a node
abbrev pub rank_of : List ℕ → ℕ → ℕ
rank_of ranks v = slice_index_or ranks (v - 1) 0

-- a residual arc with room leaves the node, offers it no more than its price, and enters a node of
-- lower rank
pub record IsExit (s : Pseudoflow) (prices : List ℤ) (ranks : List ℕ) (v : ℕ) (r : Rid) : Type 0 where
  pub room : HasRoom s r
  pub leaves : tail s.net r ≡ v
  pub offers : (unit_cost s.net r +ℤ at_node prices (head s.net r)) ≤ℤ at_node prices v
  pub lower : rank_of ranks (head s.net r) < rank_of ranks v

-- the node has price 0; or its price is below 0, and it has an exit
abbrev pub HasExit : Pseudoflow → List ℤ → List ℕ → ℕ → Type 0
HasExit s prices ranks v = (at_node prices v ≡ pos 0) ⊎ ((at_node prices v <ℤ pos 0) × ((r : Rid) × IsExit s prices ranks v r))
