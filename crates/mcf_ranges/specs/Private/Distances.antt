-- Distances in a residual network without one arc, with reduced costs for lengths.
use Rattle.std.specs.Prelude.{◌≡◌, ◌≢◌, ℕ, List, Option, None, option_map, ℤ, pos, ◌+ℤ◌, ◌-ℤ◌, ◌≤ℤ◌, ◌<ℤ◌, IfSome, if◌then◌else◌}
use Rattle.std.specs.List.{All, AllPairs}
use Rattle.mcf_flows.specs.Flow.{reduced_cost}
use Rattle.mcf_flows.specs.Network.{Network, IsArcNumber, at_node}
use Rattle.mcf_network.specs.declared.rid.Rid.{Rid}
use Rattle.mcf_network.specs.Residual.{arc_at, head, tail, unit_cost}
use Rattle.mcf_network.specs.TreeSolutions.{at_arc}
use Rattle.mcf_network.specs.Walks.{IsWalk, walk_cost}

-- the room of a residual arc: how much more it can carry
abbrev pub room_in : Network → List ℤ → Rid → ℤ
room_in g flow r = if r.back then at_arc flow r.arc -ℤ (arc_at g r.arc).low else (arc_at g r.arc).cap -ℤ at_arc flow r.arc

-- a residual arc with room, of another arc than k
pub record IsOpen (g : Network) (flow : List ℤ) (k : ℕ) (r : Rid) : Type 0 where
  pub arc : IsArcNumber g r.arc
  pub other : r.arc ≢ k
  pub room : pos 0 <ℤ room_in g flow r

-- the length of a residual arc: its reduced cost
abbrev pub length_of : Network → List ℤ → Rid → ℤ
length_of g prices r = unit_cost g r -ℤ at_node prices (tail g r) +ℤ at_node prices (head g r)

-- a walk of open arcs from u to w that is at no node twice, and its length
pub record IsPath (g : Network) (flow prices : List ℤ) (k u w : ℕ) (walk : List Rid) (length : ℤ) : Type 0 where
  pub goes : IsWalk g u walk w
  pub open_arcs : All (IsOpen g flow k) walk
  pub once : AllPairs (λ r q. tail g r ≢ tail g q) walk
  pub away : All (λ r. tail g r ≢ w) walk
  pub length_is : walk_cost g walk -ℤ at_node prices u +ℤ at_node prices w ≡ length

-- labels of nodes, 0 at u and y at w, that rise along no open arc by more than its length
pub record HasPotential (g : Network) (flow prices : List ℤ) (k u w : ℕ) (y : ℤ) : Type 0 where
  pub label : ℕ → ℤ
  pub begins : label u ≡ pos 0
  pub ends : label w ≡ y
  pub rises : (r : Rid) → IsOpen g flow k r → label (head g r) ≤ℤ (label (tail g r) +ℤ length_of g prices r)

-- the distance from u to w, if there is a path: some path has it, and labels reach each number up
-- to it, or any number if there is no path
pub record IsDistance (g : Network) (flow prices : List ℤ) (k u w : ℕ) (found : Option ℤ) : Type 0 where
  pub path : IfSome found (λ z. (walk : List Rid) × IsPath g flow prices k u w walk z)
  pub potential : (y : ℤ) → pos 0 ≤ℤ y → IfSome found (λ z. y ≤ℤ z) → HasPotential g flow prices k u w y

-- how far the cost of arc k may rise: as far as the way round is longer, if it carries more than it
-- has to
pub record IsRise (g : Network) (flow prices : List ℤ) (k : ℕ) (up : Option ℤ) : Type 0 where
  pub idle : at_arc flow k ≡ (arc_at g k).low → up ≡ None
  pub used : (arc_at g k).low <ℤ at_arc flow k → (found : Option ℤ)
      × IsDistance g flow prices k (arc_at g k).src (arc_at g k).dst found × (up ≡ option_map (λ z. z -ℤ reduced_cost prices (arc_at g k)) found)

-- how far it may fall: as far as the way back is longer, if it isn't full
pub record IsFall (g : Network) (flow prices : List ℤ) (k : ℕ) (down : Option ℤ) : Type 0 where
  pub full : at_arc flow k ≡ (arc_at g k).cap → down ≡ None
  pub free : at_arc flow k <ℤ (arc_at g k).cap → (found : Option ℤ)
      × IsDistance g flow prices k (arc_at g k).dst (arc_at g k).src found × (down ≡ option_map (λ z. z +ℤ reduced_cost prices (arc_at g k)) found)
