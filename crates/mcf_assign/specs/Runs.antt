-- How a matching comes about: one search for each row, ascending.
-- Source: AMO 9.7, 12.4
use Rattle.std.specs.Prelude.{◌≡◌, ◌≢◌, ℕ, ◌+◌, Bool, List, [], ◌∷◌, ◌++◌, length, replicate, pos, ◌⊎◌}
use Rattle.std.specs.List.{filter, range_with_len}
use Rattle.std.specs.Ordering.{int_eq}
use Rattle.mcf_flows.specs.Network.{Network, at_node, node_count}
use Rattle.mcf_network.specs.NodeSets.{no_nodes}
use Rattle.mcf_network.specs.States.{Pseudoflow}
use Rattle.mcf_network.specs.Chosen.{supply_total}
use Rattle.mcf_engine.specs.declared.engine.Outcome.{Outcome}
use Rattle.mcf_engine.specs.declared.engine.Outcome.TheVariants.{Least, Blocked as NoFlow}
use Rattle.mcf_matching.specs.declared.extended.Extended.TheVariants.{Matched, Blocked}
use Rattle.mcf_matching.specs.Extending.{Assigned, IsExtension, IsShownMatching}
use Rattle.mcf_matching.specs.Matchings.{IsMatchedRow, IsRow}

-- a node of supply 1
abbrev pub is_source : Network → ℕ → Bool
is_source g v = int_eq (at_node g.supplies v) (pos 1)

-- the nodes of supply 1 up to a number, ascending
abbrev pub sources_to : Network → ℕ → List ℕ
sources_to g n = filter (is_source g) (range_with_len 1 n)

-- the source nodes of a net, ascending
abbrev pub sources : Network → List ℕ
sources g = sources_to g (node_count g)

-- the matching without pairs, before the first search: nothing was settled or reached, and its
-- prices show it
pub record IsStart (g : Network) (m : Assigned) : Type 0 where
  pub flow : m.flow ≡ record { net = g; amounts = replicate (length g.arcs) (pos 0) }
  pub settled : m.settled ≡ []
  pub reached : m.reached ≡ no_nodes (node_count g)
  pub searches : m.searches ≡ 0
  pub shown : IsShownMatching m

-- reached from the matching without pairs by one search from each row of a list, in that order,
-- each of which matched its row by a path from it, and after each of which prices show that no
-- other amounts match the same rows for less
pub data Run (g : Network) : List ℕ → Assigned → Type 0 where
  start : {m : Assigned} → IsStart g m → Run g [] m
  more : {rows : List ℕ} {row : ℕ} {m n : Assigned} → Run g rows m → IsRow m.flow row → ¬ IsMatchedRow m.flow row
      → IsExtension m row Matched n → IsShownMatching n → Run g (rows ++ row ∷ []) n

-- one search from each source node, ascending, matched its row, and the last left this state; there
-- were this many searches
pub record IsMatchedByRows (g : Network) (s : Pseudoflow) (searches : ℕ) : Type 0 where
  pub last : Assigned
  pub run : Run g (sources g) last
  pub ends : last.flow ≡ s
  pub counted : last.searches ≡ searches
  pub once : searches ≡ length (sources g)

-- one search from each source node before a row, ascending, matched its row; that from the row
-- found no path, and reached this set; there were this many searches
pub record IsBlockedAtRow (g : Network) (table : List Bool) (searches : ℕ) : Type 0 where
  pub before : List ℕ
  pub row : ℕ
  pub rest : List ℕ
  pub in_order : sources g ≡ before ++ row ∷ rest
  pub last : Assigned
  pub run : Run g before last
  pub is_row : IsRow last.flow row
  pub not_matched : ¬ IsMatchedRow last.flow row
  pub blocked : Assigned
  pub stopped : IsExtension last row Blocked blocked
  pub reached : blocked.reached ≡ table
  pub counted : blocked.searches ≡ searches
  pub once : searches ≡ length before + 1

-- a blocked answer comes from supplies that don't sum to 0, without a search, or is what the last
-- of this many searches reached
abbrev pub IsReachedSet : Network → ℕ → Outcome → Type 0
IsReachedSet g searches (Least s prices) = Unit {0}
IsReachedSet g searches (NoFlow table side) = ((supply_total g ≢ pos 0) × (searches ≡ 0)) ⊎ IsBlockedAtRow g table searches
