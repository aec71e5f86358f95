-- What a matching keeps between searches, and what a search that is over has shown.
use Rattle.std.specs.Prelude.{◌≡◌, ℕ, ◌*◌, ◌<◌, ◌≤◌, Bool, List, [], length, ℤ, pos, ◌<ℤ◌, ◌≤ℤ◌, vec_capacity}
use Rattle.std.specs.List.{All, Contains}
use Rattle.mcf_flows.specs.Network.{Network, IsNode, at_node, node_count}
use Rattle.mcf_flows.specs.WellFormed.{IsUpTo}
use Rattle.mcf_network.specs.declared.rid.Rid.{Rid}
use Rattle.mcf_network.specs.States.{Pseudoflow}
use Rattle.mcf_matching.specs.declared.scene.Mate.{Mate}
use Rattle.mcf_matching.specs.declared.search.Tables.{Tables}
use Rattle.mcf_matching.specs.Private.Forests.{AreMates, IsOrder}
use Rattle.mcf_matching.specs.Matchings.{AreMatchingPrices, IsMatchedRow, IsPartialMatching, IsRow}
use Rattle.mcf_matching.specs.Private.Reaches.{first_price, price_reach}
use Rattle.mcf_matching.specs.Private.Searches.{HasEntries, HasForward, IsLast, IsOver, IsSearch, Search, Settled, search_of}

-- tables for a net: what is settled is listed, and there is room to list every node, and to queue
-- an offer of every arc twice
pub record IsIdle (g : Network) {W : Type 0} (tables : Tables W) : Type 0 where
  pub entries : HasEntries (node_count g) (search_of tables)
  pub room : node_count g ≤ vec_capacity tables.order
  pub queue : 2 * length g.arcs ≤ tables.offers.room
  pub each : All (IsNode (node_count g)) tables.order.items
  pub listed : (v : ℕ) → IsNode (node_count g) v → Settled (search_of tables) v → Contains tables.order.items v

-- a search with the list of what it settled, the arcs of whose last row are to be relaxed
pub record IsReady (s : Pseudoflow) (y : List ℤ) (q : Search) (source : ℕ) (order : List ℕ) (row : ℕ) : Type 0 where
  pub search : (list : List Rid) → HasForward s.net row list → IsSearch s y q source list
  pub order_ok : IsOrder s q source order
  pub last : IsLast s q row
  pub is_row : IsRow s row
  pub settled : Settled q row

-- a search that is over, with the list of what it settled
pub record IsEnded (s : Pseudoflow) (y : List ℤ) (q : Search) (source : ℕ) (order : List ℕ) : Type 0 where
  pub search : IsSearch s y q source []
  pub over : IsOver q
  pub order_ok : IsOrder s q source order

-- each price is that of a matching
abbrev pub AreNearZero : Pseudoflow → List ℤ → Type 0
AreNearZero s y = (v : ℕ) → IsNode (node_count s.net) v → IsUpTo (price_reach s.net) (at_node y v)

-- the first prices of this many nodes: those of rows, and 0 for the others
pub record AreFirstPrices (g : Network) (y : List ℤ) (nodes : ℕ) : Type 0 where
  pub one_per_node : length y ≡ node_count g
  pub rows : (v : ℕ) → IsNode nodes v → pos 0 <ℤ at_node g.supplies v → at_node y v ≡ first_price g
  pub others : (v : ℕ) → IsNode nodes v → at_node g.supplies v ≤ℤ pos 0 → at_node y v ≡ pos 0
  pub rest : (v : ℕ) → nodes < v → at_node y v ≡ pos 0

-- the rows that aren't matched have the price with which they began
abbrev pub FreeRowsAreFirst : Pseudoflow → List ℤ → Type 0
FreeRowsAreFirst s y = (v : ℕ) → IsRow s v → ¬ IsMatchedRow s v → at_node y v ≡ first_price s.net

-- what a matching keeps between two calls
pub record IsKept (s : Pseudoflow) (y : List ℤ) (mates : List Mate) {W : Type 0} (tables : Tables W) (reached : List Bool) : Type 0 where
  pub matching : IsPartialMatching s
  pub shown : AreMatchingPrices s y
  pub mated : AreMates s mates
  pub idle : IsIdle s.net tables
  pub near : AreNearZero s y
  pub free_rows : FreeRowsAreFirst s y
  pub count : length reached ≡ node_count s.net
