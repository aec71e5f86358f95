-- What a search reads and doesn't change, and the row whose arcs it relaxes.
use Rattle.std.specs.Prelude.{◌≡◌, ℕ, List, ℤ, ◌-ℤ◌}
use Rattle.mcf_flows.specs.Network.{at_node, node_count}
use Rattle.mcf_flows.specs.WellFormed.{IsUpTo}
use Rattle.mcf_network.specs.States.{Pseudoflow}
use Rattle.mcf_matching.specs.declared.rows.Rows.{Rows}
use Rattle.mcf_matching.specs.declared.scene.Mate.{Mate}
use Rattle.mcf_matching.specs.Matchings.{AreMatchingPrices, IsPartialMatching, IsRow}
use Rattle.mcf_matching.specs.Private.Forests.{AreMates}
use Rattle.mcf_matching.specs.Private.RowLists.{AreRows}
use Rattle.mcf_matching.specs.Private.Searches.{HasEntries, IsLast, Search, Settled, dist_at}
use Rattle.mcf_matching.specs.Private.Labels.{Row}
use Rattle.mcf_matching.specs.Private.Reaches.{HasWidth, base_reach}
use Rattle.mcf_matching.specs.Private.Keeping.{AreNearZero}

-- a partial matching with the arcs of its rows and the mates, and prices that show it and are near
-- 0, all in numbers that may lie so far from 0
pub record IsScene (room : ℕ) (s : Pseudoflow) (arcs : Rows) (y : List ℤ) (table : List Mate) : Type 0 where
  pub matching : IsPartialMatching s
  pub rows : AreRows s.net arcs
  pub prices : AreMatchingPrices s y
  pub mates : AreMates s table
  pub small : AreNearZero s y
  pub width : HasWidth room s.net

-- what holds while the arcs of a row are relaxed: it is settled, no settled node is farther, and
-- its base is its distance less its price, so that an arc offers its column that base, its cost and
-- the price of the column together
pub record IsScannedRow (room : ℕ) (s : Pseudoflow) (arcs : Rows) (y : List ℤ) (table : List Mate) (q : Search) (row : Row) : Type 0 where
  pub scene : IsScene room s arcs y table
  pub entries : HasEntries (node_count s.net) q
  pub is_row : IsRow s row.id
  pub settled : Settled q row.id
  pub last : IsLast s q row.id
  pub base : row.base ≡ dist_at q row.id -ℤ at_node y row.id
  pub near : IsUpTo (base_reach s.net) row.base
