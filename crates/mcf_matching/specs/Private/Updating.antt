-- Updates of all prices at once: which new prices are taken.
use Rattle.std.specs.Prelude.{◌≡◌, ℕ, ◌-◌, ◌^◌, List, length, ℤ, pos, ◌+ℤ◌, ◌≤ℤ◌}
use Rattle.std.specs.List.{All}
use Rattle.mcf_flows.specs.Network.{IsNode, at_node, node_count}
use Rattle.mcf_flows.specs.WellFormed.{IsUpTo}
use Rattle.mcf_network.specs.States.{Pseudoflow}
use Rattle.mcf_matching.specs.declared.rows.RowArc.{RowArc}
use Rattle.mcf_matching.specs.Extending.{Assigned, IsMatched}
use Rattle.mcf_matching.specs.Matchings.{AreMatchingPrices, IsMatchedRow, IsPair, IsRow, reduced}
use Rattle.mcf_matching.specs.Private.Reaches.{price_reach}

-- a new price x fits a node: it is near 0 and no less than before, and that of a free node is as
-- before
pub record DoesNodeFit (s : Pseudoflow) (y : List ℤ) (v : ℕ) (x : ℤ) : Type 0 where
  pub near : IsUpTo (price_reach s.net) x
  pub above : at_node y v ≤ℤ x
  pub free : ¬ IsMatched s v → x ≡ at_node y v

-- new prices fit an arc: its reduced cost isn't below 0, and it is 0 if the arc has amount 1
pub record DoesArcFit (s : Pseudoflow) (z : List ℤ) (k : ℕ) : Type 0 where
  pub low : pos 0 ≤ℤ reduced s z k
  pub tight : IsPair s k → reduced s z k ≡ pos 0

-- what the arc offers its row by new prices z is a sum of 64 bits
pub record IsReadable (z : List ℤ) (a : RowArc) : Type 0 where
  pub column : IsNode (length z) a.column
  pub fits : IsUpTo (2 ^ 63 - 1) (a.cost +ℤ at_node z a.column)

-- an update before a search: prices alone changed
pub record IsRepriced (old new : Assigned) : Type 0 where
  pub flow : new.flow ≡ old.flow
  pub settled : new.settled ≡ old.settled
  pub reached : new.reached ≡ old.reached
  pub searches : new.searches ≡ old.searches

-- new prices z are near 0 and show the matching, and the rows that aren't matched keep theirs
pub record AreUpdated (s : Pseudoflow) (y z : List ℤ) : Type 0 where
  pub count : length z ≡ node_count s.net
  pub near : All (IsUpTo (price_reach s.net)) z
  pub shown : AreMatchingPrices s z
  pub free_rows : (v : ℕ) → IsRow s v → ¬ IsMatchedRow s v → at_node z v ≡ at_node y v
