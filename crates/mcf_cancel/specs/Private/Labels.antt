-- The labels of a search for prices: a price for each node, and the residual arc that gave it.
use Rattle.std.specs.Prelude.{◌≡◌, ℕ, ◌<◌, ◌≤◌, ◌-◌, ◌^◌, List, [], ◌∷◌, length, Bool, Option, Some, None, ℤ, pos, ◌+ℤ◌, ◌≤ℤ◌, ◌<ℤ◌, ◌⊎◌, slice_index_or}
use Rattle.std.specs.Prelude.{slice_set}
use Rattle.std.specs.Bool.{MatchBool}
use Rattle.mcf_flows.specs.Flow.{AreLowPrices, AreNotAboveZero}
use Rattle.mcf_flows.specs.Network.{IsNode, at_node, node_count}
use Rattle.mcf_network.specs.declared.rid.Rid.{Rid}
use Rattle.mcf_network.specs.Residual.{tail, head, unit_cost}
use Rattle.mcf_network.specs.States.{Pseudoflow, IsPseudoflow}
use Rattle.mcf_network.specs.Walks.{HasRoom}
use Rattle.mcf_engine.specs.Respecting.{Respects}

-- a state, a price for each node, and the residual arc that gave it, if one did
pub record Labels : Type 0 where
  pub flow : Pseudoflow
  pub prices : List ℤ
  pub links : List (Option Rid)

-- how far below 0 a price lies at most where a round begins
abbrev pub round_depth : ℕ
round_depth = 10 ^ 28

-- and where a node relaxes in a round
abbrev pub node_depth : ℕ
node_depth = 10 ^ 29

-- and where one arc does
abbrev pub arc_depth : ℕ
arc_depth = 10 ^ 30

-- how far a price falls at most in a round
abbrev pub round_fall : ℕ
round_fall = 10 ^ 21

-- the residual arc that gave a node its price, if one did
abbrev pub link_at : Labels → ℕ → Option Rid
link_at l v = slice_index_or l.links (v - 1) None

-- the price that a residual arc offers to its tail
abbrev pub offer : Labels → Rid → ℤ
offer l r = unit_cost l.flow.net r +ℤ at_node l.prices (head l.flow.net r)

-- the labels with the tail of a residual arc at what the arc offers
abbrev pub lowered : Labels → Rid → Labels
lowered l r =
    record l {
      prices = slice_set l.prices (tail l.flow.net r - 1) (offer l r);
      links = slice_set l.links (tail l.flow.net r - 1) (Some r);
    }

-- the link of a node offers it less than its price, or its price, since a time before the node was
-- stamped
pub record IsLink (l : Labels) (stamp : ℕ → ℕ) (v : ℕ) (r : Rid) : Type 0 where
  pub from : tail l.flow.net r ≡ v
  pub has_room : HasRoom l.flow r
  pub falls : (offer l r <ℤ at_node l.prices v) ⊎ ((offer l r ≡ at_node l.prices v) × (stamp (head l.flow.net r) < stamp v))

-- each node has a link, or the price 0
pub record IsLinked (l : Labels) : Type 0 where
  pub stamp : ℕ → ℕ
  pub clock : ℕ
  pub before : (v : ℕ) → stamp v ≤ clock
  pub links : (v : ℕ) (r : Rid) → IsNode (length l.links) v → link_at l v ≡ Some r → IsLink l stamp v r
  pub roots : (v : ℕ) → IsNode (length l.links) v → link_at l v ≡ None → at_node l.prices v ≡ pos 0

-- prices not above 0, and not below any that show the flow
pub record IsLabelling (l : Labels) : Type 0 where
  pub flow : IsPseudoflow l.flow
  pub count : length l.prices ≡ node_count l.flow.net
  pub link_count : length l.links ≡ node_count l.flow.net
  pub not_above_zero : AreNotAboveZero l.prices
  pub above : (others : List ℤ) → AreLowPrices l.flow.net others l.flow.amounts → (v : ℕ) → IsNode (node_count l.flow.net) v
      → at_node others v ≤ℤ at_node l.prices v
  pub linked : IsLinked l

-- the sum of prices
abbrev pub total : List ℤ → ℤ
total [] = pos 0
total (y ∷ ys) = y +ℤ total ys

-- a residual arc with room lowered the price of its tail
pub record IsLowering (old new : Labels) (r : Rid) : Type 0 where
  pub has_room : HasRoom old.flow r
  pub less : offer old r <ℤ at_node old.prices (tail old.flow.net r)
  pub lowers : new ≡ lowered old r

-- a residual arc lowers no price
pub record IsKeeping (old new : Labels) (r : Rid) : Type 0 where
  pub same : new ≡ old
  pub respects : Respects old.flow old.prices r

-- the price of the tail fell, or the arc is respected
abbrev pub IsRelaxing : Labels → Labels → Rid → Bool → Type 0
IsRelaxing old new r fell = MatchBool fell (IsLowering old new r) (IsKeeping old new r)
