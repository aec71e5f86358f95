-- States: an amount for each arc of a net, and what each node has left to send.
-- Source: AMO 9.7
use Rattle.std.specs.Prelude.{◌≡◌, ℕ, ◌-◌, ◌==◌, List, length, ℤ, pos, ◌+ℤ◌, ◌-ℤ◌, if◌then◌else◌, slice_index_or, slice_set}
use Rattle.mcf_flows.specs.Flow.{IsWithinBounds, net}
use Rattle.mcf_flows.specs.Network.{Network, IsNode, at_node, node_count, when}
use Rattle.mcf_network.specs.declared.rid.Rid.{Rid}
use Rattle.mcf_network.specs.Nets.{IsNet}
use Rattle.mcf_network.specs.Residual.{arc_at}

-- a net, and an amount for each of its arcs, which need not meet the supplies
pub record Pseudoflow : Type 0 where
  pub net : Network
  pub amounts : List ℤ

-- the net keeps what every net does, and each of its arcs has an amount, from 0 to its width
pub record IsPseudoflow (s : Pseudoflow) : Type 0 where
  pub of_net : IsNet s.net
  pub within_bounds : IsWithinBounds s.net.arcs s.amounts

-- the amount of the arc of this number
abbrev pub amount_at : Pseudoflow → ℕ → ℤ
amount_at s k = slice_index_or s.amounts (k - 1) (pos 0)

-- the surplus, or excess, of node v: what it has left to send, its supply less the net of the
-- amounts
abbrev pub surplus_at : Pseudoflow → ℕ → ℤ
surplus_at s v = at_node s.net.supplies v -ℤ net s.net.arcs s.amounts v

-- no node has anything left to send or to take
abbrev pub HasNoSurplus : Pseudoflow → Type 0
HasNoSurplus s = (v : ℕ) → IsNode (node_count s.net) v → surplus_at s v ≡ pos 0

-- the room, or residual capacity, of a residual arc: how much more it can carry
-- Source: AMO 2.4
abbrev pub room_of : Pseudoflow → Rid → ℤ
room_of s r = if r.back then amount_at s r.arc else (arc_at s.net r.arc).cap -ℤ amount_at s r.arc

-- the state with x more along a residual arc
abbrev pub pushed : Pseudoflow → Rid → ℤ → Pseudoflow
pushed s r x =
    record s {
      amounts = slice_set s.amounts (r.arc - 1) (if r.back then amount_at s r.arc -ℤ x else amount_at s r.arc +ℤ x);
    }

-- x of the surplus moves from one node to another, and no other surplus changes
abbrev pub MovesSurplus : Pseudoflow → Pseudoflow → ℕ → ℕ → ℤ → Type 0
MovesSurplus s s' from to x =
    (v : ℕ) → IsNode (node_count s.net) v → surplus_at s' v ≡ surplus_at s v -ℤ when (from == v) x +ℤ when (to == v) x

-- a state, and a list with the surplus of each of its nodes
pub record KeepsSurplus (s : Pseudoflow) (surpluses : List ℤ) : Type 0 where
  pub flow : IsPseudoflow s
  pub count : length surpluses ≡ node_count s.net
  pub each : (v : ℕ) → IsNode (node_count s.net) v → at_node surpluses v ≡ surplus_at s v

-- a state of the net in which no node has anything left to send or to take
pub record IsFeasibleState (g : Network) (s : Pseudoflow) : Type 0 where
  pub of_net : s.net ≡ g
  pub flow : IsPseudoflow s
  pub no_surplus : HasNoSurplus s
