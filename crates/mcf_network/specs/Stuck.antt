-- Sets that no surplus can leave (Ahuja, Magnanti and Orlin, Network Flows, section 6.5).
-- Source: AMO 6.5
use Rattle.std.specs.Prelude.{◌≡◌, ℕ, Bool, true, pos, ◌≤ℤ◌, ◌<ℤ◌}
use Rattle.mcf_flows.specs.Network.{IsNode, node_count}
use Rattle.mcf_network.specs.declared.rid.Rid.{Rid}
use Rattle.mcf_network.specs.Residual.{tail, head}
use Rattle.mcf_network.specs.States.{Pseudoflow, surplus_at}
use Rattle.mcf_network.specs.Walks.{HasRoom}

-- no residual arc with room leaves the set, none of its nodes has a surplus below 0, and one has a
-- surplus above 0: so ends a search from a node with a surplus that finds no node that takes
pub record IsStuck (s : Pseudoflow) (set : ℕ → Bool) : Type 0 where
  pub closed : (r : Rid) → HasRoom s r → set (tail s.net r) ≡ true → set (head s.net r) ≡ true
  pub no_deficit : (v : ℕ) → IsNode (node_count s.net) v → set v ≡ true → pos 0 ≤ℤ surplus_at s v
  pub source : (v : ℕ) × IsNode (node_count s.net) v × (set v ≡ true) × (pos 0 <ℤ surplus_at s v)
