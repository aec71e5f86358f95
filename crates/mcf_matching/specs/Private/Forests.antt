-- The mates of a matching; the nodes that a search settled in their order, and the alternating
-- paths of its predecessors from its row to each of them.
use Rattle.std.specs.Prelude.{◌≡◌, ◌≢◌, ℕ, ◌+◌, ◌-◌, ◌<◌, ◌≤◌, ◌==◌, List, [], ◌∷◌, length, ℤ, pos, ◌⊎◌, if◌then◌else◌, slice_index_or}
use Rattle.std.specs.List.{All, AllPairs, Contains}
use Rattle.mcf_flows.specs.Network.{IsArcNumber, IsNode, node_count}
use Rattle.mcf_network.specs.NodeSets.{member_count}
use Rattle.mcf_network.specs.States.{Pseudoflow, amount_at}
use Rattle.mcf_matching.specs.declared.scene.Mate.{Mate}
use Rattle.mcf_matching.specs.Extending.{IsMatched, IsReachable}
use Rattle.mcf_matching.specs.Matchings.{IsColumn, IsMatchedColumn, IsMatchedRow, IsPair, IsPartialMatching, IsRow, MatchSameRows, column_of, reduced, row_of}
use Rattle.mcf_matching.specs.Private.Searches.{Search, Settled, predecessor_at}
use Rattle.mcf_matching.specs.Private.Turning.{IsPushedFrom}

-- an arc with the node at its other end
abbrev pub mate : ℕ → ℕ → Mate
mate k v = record { arc = k; node = v }

-- the mate of a node
abbrev pub mate_at : List Mate → ℕ → Mate
mate_at mates v = slice_index_or mates (v - 1) (mate 0 0)

-- each arc of amount 1 stands at its row, with its column, and at its column, with its row, and an
-- arc stands only where a node is matched
pub record AreMates (s : Pseudoflow) (mates : List Mate) : Type 0 where
  pub count : length mates ≡ node_count s.net
  pub at_row : (k : ℕ) → IsPair s k → mate_at mates (row_of s k) ≡ mate k (column_of s k)
  pub at_column : (k : ℕ) → IsPair s k → mate_at mates (column_of s k) ≡ mate k (row_of s k)
  pub matched : (v : ℕ) → IsNode (node_count s.net) v → 0 < (mate_at mates v).arc → IsMatched s v

-- where a node stands in a list, from 0; the length of the list if it doesn't
abbrev pub place : List ℕ → ℕ → ℕ
place [] v = 0
place (x ∷ xs) v = if x == v then 0 else place xs v + 1

-- the list has the settled nodes, each once, the row first, and each with the node before it on an
-- alternating path earlier than it
pub record IsOrder (s : Pseudoflow) (q : Search) (source : ℕ) (order : List ℕ) : Type 0 where
  pub rest : List ℕ
  pub first : order ≡ source ∷ rest
  pub once : AllPairs (λ u v. u ≢ v) order
  pub nodes : All (IsNode (node_count s.net)) order
  pub listed : (v : ℕ) → IsNode (node_count s.net) v → Settled q v → Contains order v
  pub members : (v : ℕ) → Contains order v → Settled q v
  pub tally : length order ≡ member_count q.settled
  pub reachable : (v : ℕ) → IsNode (node_count s.net) v → Settled q v → IsReachable s source v
  pub rows : (v : ℕ) → IsRow s v → Settled q v → (v ≡ source) ⊎ IsMatchedRow s v
  pub pairs : (k : ℕ) → IsPair s k → Settled q (row_of s k) → place order (column_of s k) < place order (row_of s k)
  pub predecessors : (v : ℕ) → IsColumn s v → Settled q v → place order (row_of s (predecessor_at q v)) < place order v

-- the list has the settled nodes, each once
pub record IsListing (nodes : ℕ) (q : Search) (order : List ℕ) : Type 0 where
  pub once : AllPairs (λ u v. u ≢ v) order
  pub each : All (IsNode nodes) order
  pub listed : (v : ℕ) → IsNode nodes v → Settled q v → Contains order v
  pub members : (v : ℕ) → Contains order v → Settled q v

-- an arc of reduced cost 0 from a settled row to a column
pub record IsTightArc (s : Pseudoflow) (q : Search) (z : List ℤ) (k v : ℕ) : Type 0 where
  pub arc : IsArcNumber s.net k
  pub from : Settled q (row_of s k)
  pub to : column_of s k ≡ v
  pub tight : reduced s z k ≡ pos 0

-- the alternating paths from a row that is not matched, whose arcs all have the reduced cost 0
pub record IsForest (s : Pseudoflow) (q : Search) (source : ℕ) (order : List ℕ) (z : List ℤ) : Type 0 where
  pub matching : IsPartialMatching s
  pub not_matched : ¬ IsMatchedRow s source
  pub tight : (k : ℕ) → IsPair s k → reduced s z k ≡ pos 0
  pub rows : (v : ℕ) → IsRow s v → Settled q v → (v ≡ source) ⊎ IsMatchedRow s v
  pub columns : (k : ℕ) → IsPair s k → Settled q (row_of s k) → Settled q (column_of s k)
  pub pairs : (k : ℕ) → IsPair s k → Settled q (row_of s k) → place order (column_of s k) < place order (row_of s k)
  pub predecessors : (v : ℕ) → IsColumn s v → Settled q v → IsTightArc s q z (predecessor_at q v) v
  pub earlier : (v : ℕ) → IsColumn s v → Settled q v → place order (row_of s (predecessor_at q v)) < place order v

-- only arcs from settled rows to settled columns, or to column t, changed
abbrev pub IsChangedWithin : Pseudoflow → Pseudoflow → Search → ℕ → Type 0
IsChangedWithin old s q t =
    (i : ℕ) → IsArcNumber old.net i → (amount_at s i ≡ amount_at old i) ⊎ (Settled q (row_of old i) × (Settled q (column_of old i) ⊎ (column_of old i ≡ t)))

-- the path that ends with the target arc is turned from its end on as far as the column of arc k,
-- which is free now: all rows are matched that were, and the pairs of earlier rows, and that of the
-- row of k, are as they were
pub record IsTurning (old s : Pseudoflow) (mates : List Mate) (q : Search) (order : List ℕ) (target k : ℕ) : Type 0 where
  pub net : s.net ≡ old.net
  pub matching : IsPartialMatching s
  pub mated : AreMates s mates
  pub arc : IsArcNumber old.net k
  pub from : Settled q (row_of old k)
  pub column : ℕ
  pub at : column_of old k ≡ column
  pub to : (Settled q column × IsMatchedColumn old column) ⊎ (column ≡ column_of old target)
  pub free : ¬ IsMatchedColumn s column
  pub rows : MatchSameRows old s
  pub columns : (v : ℕ) → IsMatchedColumn old v → v ≢ column → IsMatchedColumn s v
  pub others : (v : ℕ) → IsMatchedColumn s v → IsMatchedColumn old v ⊎ (v ≡ column_of old target)
  pub earlier : (i : ℕ) → IsPair old i → place order (row_of old i) ≤ place order (row_of old k) → IsPair s i
  pub tight : (source : ℕ) (z : List ℤ) → IsForest old q source order z → IsTightArc old q z target (column_of old target)
      → (reduced old z k ≡ pos 0) × ((i : ℕ) → IsPair s i → reduced old z i ≡ pos 0)
  pub changed : IsChangedWithin old s q (column_of old target)
  pub path : IsPushedFrom old s (place order) (place order (row_of old k)) column (column_of old target)
