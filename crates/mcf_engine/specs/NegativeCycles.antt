-- Negative cycles (Ahuja, Magnanti and Orlin, Network Flows, section 5.5).
-- Source: AMO 5.5, 9.3
use Rattle.std.specs.Prelude.{◌≡◌, ◌≢◌, ℕ, List, ℤ, pos, ◌≤ℤ◌, ◌<ℤ◌}
use Rattle.std.specs.List.{All, AllPairs, Any}
use Rattle.mcf_network.specs.declared.rid.Rid.{Rid}
use Rattle.mcf_network.specs.Residual.{tail}
use Rattle.mcf_network.specs.States.{Pseudoflow, room_of}
use Rattle.mcf_network.specs.Walks.{HasRoom, IsWalk, pushed_along, walk_cost}

-- a closed walk of residual arcs with room, which leaves no node twice and costs less than 0
pub record IsNegativeCycle (s : Pseudoflow) (walk : List Rid) : Type 0 where
  pub has_room : All (HasRoom s) walk
  pub closed : (u : ℕ) × IsWalk s.net u walk u
  pub distinct : AllPairs (λ r q. tail s.net r ≢ tail s.net q) walk
  pub negative : walk_cost s.net walk <ℤ pos 0

-- as much was pushed round a cycle as there is room for: the least room along it
pub record IsCancelled (s s' : Pseudoflow) (walk : List Rid) : Type 0 where
  pub amount : ℤ
  pub each : All (λ r. amount ≤ℤ room_of s r) walk
  pub reached : Any (λ r. amount ≡ room_of s r) walk
  pub pushed : s' ≡ pushed_along s walk amount
