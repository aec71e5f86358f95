-- Walks of residual arcs, and the same amount pushed along each of their arcs.
-- Source: AMO 2.2
use Rattle.std.specs.Prelude.{◌≡◌, ◌≢◌, ℕ, List, [], ◌∷◌, ℤ, pos, ◌+ℤ◌, ◌≤ℤ◌, ◌<ℤ◌}
use Rattle.std.specs.List.{All, AllPairs}
use Rattle.mcf_flows.specs.Network.{Network, IsArcNumber}
use Rattle.mcf_network.specs.declared.rid.Rid.{Rid}
use Rattle.mcf_network.specs.Residual.{tail, head, unit_cost}
use Rattle.mcf_network.specs.States.{Pseudoflow, room_of, pushed}

-- each residual arc leaves the node that the one before enters; the first leaves u, the last enters
-- w
abbrev pub IsWalk : Network → ℕ → List Rid → ℕ → Type 0
IsWalk g u [] w = u ≡ w
IsWalk g u (r ∷ rest) w = (tail g r ≡ u) × IsWalk g (head g r) rest w

-- what a unit along a list of residual arcs costs
abbrev pub walk_cost : Network → List Rid → ℤ
walk_cost g [] = pos 0
walk_cost g (r ∷ rest) = unit_cost g r +ℤ walk_cost g rest

-- a residual arc of the net that can carry more
-- Source: AMO 2.4
pub record HasRoom (s : Pseudoflow) (r : Rid) : Type 0 where
  pub arc : IsArcNumber s.net r.arc
  pub room : pos 0 <ℤ room_of s r

-- a residual arc of the net that can carry x more
-- Source: AMO 2.4
pub record HasRoomFor (s : Pseudoflow) (x : ℤ) (r : Rid) : Type 0 where
  pub arc : IsArcNumber s.net r.arc
  pub room : x ≤ℤ room_of s r

-- x more along each of these residual arcs, one after another
-- Source: AMO 6.4
abbrev pub pushed_along : Pseudoflow → List Rid → ℤ → Pseudoflow
pushed_along s [] x = s
pushed_along s (r ∷ rest) x = pushed_along (pushed s r x) rest x

-- x is at least 0, each of these residual arcs has room for it, and none stands twice
-- Source: AMO 6.4
pub record CanPushAlong (s : Pseudoflow) (walk : List Rid) (x : ℤ) : Type 0 where
  pub low : pos 0 ≤ℤ x
  pub room : All (HasRoomFor s x) walk
  pub distinct : AllPairs (λ r q. r ≢ q) walk
