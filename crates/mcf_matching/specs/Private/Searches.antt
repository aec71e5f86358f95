-- A search for a shortest augmenting path from a row that is not matched (Ahuja, Magnanti and
-- Orlin, Network Flows, section 12.4): distances by reduced costs.
use Rattle.std.specs.Prelude.{◌≡◌, ℕ, ◌+◌, ◌-◌, ◌*◌, Bool, true, false, List, [], ◌∷◌, ◌++◌, length, Option, Some, None, ℤ, pos, ◌+ℤ◌, ◌-ℤ◌, ◌≤ℤ◌, ◌⊎◌, slice_index_or}
use Rattle.std.specs.Prelude.{slice_set}
use Rattle.std.specs.List.{Contains}
use Rattle.mcf_flows.specs.Blocking.{in_table}
use Rattle.mcf_flows.specs.Network.{Network, IsArcNumber, IsNode, at_node, node_count}
use Rattle.mcf_flows.specs.WellFormed.{IsUpTo}
use Rattle.mcf_network.specs.declared.rid.Rid.{Rid}
use Rattle.mcf_network.specs.NodeSets.{member_count}
use Rattle.mcf_network.specs.Residual.{arc_at}
use Rattle.mcf_network.specs.States.{Pseudoflow, amount_at}
use Rattle.mcf_offers.specs.Offers.{Offer}
use Rattle.mcf_network.specs.Nets.{greatest_cost}
use Rattle.mcf_matching.specs.Private.Labels.{Target}
use Rattle.mcf_matching.specs.declared.search.Tables.{Tables}
use Rattle.mcf_matching.specs.Matchings.{IsColumn, IsMatchedColumn, IsMatchedRow, IsPair, IsRow, column_of, reduced, row_of}

-- for each node its distance, the offers that wait, which nodes are settled, for each column the
-- arc that gave it its distance, the best column found that is not matched, and which of the
-- searches of its tables it is
pub record Search : Type 0 where
  pub dist : List ℤ
  pub queue : List Offer
  pub settled : List Bool
  pub predecessors : List ℕ
  pub best : Option Target
  pub number : ℕ

-- what the tables of a search hold
abbrev pub search_of : {W : Type 0} → Tables W → Search
search_of a =
    record {
      dist = a.dists.items;
      queue = a.offers.items;
      settled = a.marks.items;
      predecessors = a.predecessors.items;
      best = a.best;
      number = a.searches.number;
    }

-- other offers wait
abbrev pub queued : Search → List Offer → Search
queued q list = record q { queue = list }

-- the column of an offer and a row, settled at its distance and by its arc
abbrev pub paired : Search → Offer → ℕ → Search
paired q o r =
    record q {
      dist = slice_set (slice_set q.dist (o.column - 1) o.dist) (r - 1) o.dist;
      settled = slice_set (slice_set q.settled (o.column - 1) true) (r - 1) true;
      predecessors = slice_set q.predecessors (o.column - 1) o.arc;
    }

-- one search more: only the source is settled, at distance 0, and there is no target
abbrev pub begun : Search → ℕ → Search
begun q source =
    record q {
      dist = slice_set q.dist (source - 1) (pos 0);
      settled = slice_set q.settled (source - 1) true;
      best = None;
      number = q.number + 1;
    }

-- a node is settled
abbrev pub Settled : Search → ℕ → Type 0
Settled q v = in_table q.settled v ≡ true

-- an offer waits
abbrev pub Waits : Search → Offer → Type 0
Waits q o = Contains q.queue o

-- the distance of a node
abbrev pub dist_at : Search → ℕ → ℤ
dist_at q v = at_node q.dist v

-- the arc that gave a column its distance
abbrev pub predecessor_at : Search → ℕ → ℕ
predecessor_at q v = slice_index_or q.predecessors (v - 1) 0

-- the distance that an arc offers to its column
abbrev pub offer : Pseudoflow → List ℤ → Search → ℕ → ℤ
offer s y q k = dist_at q (row_of s k) +ℤ reduced s y k

-- the same with the column and the arc
abbrev pub offer_of : Pseudoflow → List ℤ → Search → ℕ → Offer
offer_of s y q k = record { dist = offer s y q k; column = column_of s k; arc = k }

-- a column that is not matched was found no farther away than x
abbrev pub IsBestUpTo : Option Target → ℤ → Type 0
IsBestUpTo None x = ⊥
IsBestUpTo (Some t) x = t.dist ≤ℤ x

-- what an arc offers can't improve a distance
abbrev pub IsOffered : Pseudoflow → List ℤ → Search → ℕ → Type 0
IsOffered s y q k =
    (Settled q (column_of s k) × (dist_at q (column_of s k) ≤ℤ offer s y q k)) ⊎
    (Waits q (offer_of s y q k) ⊎ IsBestUpTo q.best (offer s y q k))

-- an arc without flow from a settled row, which offers its column x
pub record IsPredecessor (s : Pseudoflow) (y : List ℤ) (q : Search) (k v : ℕ) (x : ℤ) : Type 0 where
  pub arc : IsArcNumber s.net k
  pub idle : amount_at s k ≡ pos 0
  pub from : Settled q (row_of s k)
  pub to : column_of s k ≡ v
  pub gives : x ≡ offer s y q k

-- lists with an entry for each node
pub record HasLengths (nodes : ℕ) (dist : List ℤ) (settled : List Bool) (predecessors : List ℕ) : Type 0 where
  pub dist_count : length dist ≡ nodes
  pub settled_count : length settled ≡ nodes
  pub predecessor_count : length predecessors ≡ nodes

-- tables with an entry for each node
abbrev pub HasEntries : ℕ → Search → Type 0
HasEntries nodes q = HasLengths nodes q.dist q.settled q.predecessors

-- an arc as a residual arc
abbrev pub forward : ℕ → Rid
forward k = record { arc = k; back = false }

-- how far the distances of a search lie from the prices: each is the cost of a walk from the
-- source, but for the prices of its ends, and costs are small
abbrev pub IsNear : Pseudoflow → List ℤ → Search → ℕ → ℕ → Type 0
IsNear s y q source b = (v : ℕ) → IsNode (node_count s.net) v → Settled q v → IsUpTo b (dist_at q v +ℤ at_node y source -ℤ at_node y v)

-- how far the distances may lie when this many nodes are settled
abbrev pub reach_of : Network → Search → ℕ
reach_of g q = 2 * greatest_cost g.arcs * member_count q.settled

-- a search from a row: all arcs from settled rows were offered, but those of a list. An offer that
-- waits for a column that was settled since is of no account
pub record IsSearch (s : Pseudoflow) (y : List ℤ) (q : Search) (source : ℕ) (rest : List Rid) : Type 0 where
  pub entries : HasEntries (node_count s.net) q
  pub is_row : IsRow s source
  pub not_matched : ¬ IsMatchedRow s source
  pub source_settled : Settled q source
  pub pairs : (k : ℕ) → IsPair s k → Settled q (row_of s k) → Settled q (column_of s k) × (dist_at q (row_of s k) ≡ dist_at q (column_of s k))
  pub partners : (k : ℕ) → IsPair s k → Settled q (column_of s k) → Settled q (row_of s k)
  pub settled_columns : (v : ℕ) → IsColumn s v → Settled q v → IsMatchedColumn s v × IsPredecessor s y q (predecessor_at q v) v (dist_at q v)
  pub waiting : (o : Offer) → Waits q o → IsMatchedColumn s o.column × IsPredecessor s y q o.arc o.column o.dist
  pub level : (u : ℕ) (o : Offer) → IsNode (node_count s.net) u → Settled q u → Waits q o → dist_at q u ≤ℤ o.dist
  pub best : (t : Target) → q.best ≡ Some t → IsPredecessor s y q t.arc (column_of s t.arc) t.dist × (¬ IsMatchedColumn s (column_of s t.arc)) × ((u : ℕ)
      → IsNode (node_count s.net) u → Settled q u → dist_at q u ≤ℤ t.dist)
  pub offers : (k : ℕ) → IsArcNumber s.net k → Settled q (row_of s k) → IsOffered s y q k ⊎ Contains rest (forward k)
  pub near : IsNear s y q source (reach_of s.net q)

-- no settled node is farther away than a row
abbrev pub IsLast : Pseudoflow → Search → ℕ → Type 0
IsLast s q r = (u : ℕ) → IsNode (node_count s.net) u → Settled q u → dist_at q u ≤ℤ dist_at q r

-- an offer that settles its column: no settled node is farther away, and neither an offer that
-- waits nor the target is nearer
pub record IsDue (s : Pseudoflow) (y : List ℤ) (q : Search) (o : Offer) : Type 0 where
  pub matched : IsMatchedColumn s o.column
  pub fresh : ¬ Settled q o.column
  pub predecessor : IsPredecessor s y q o.arc o.column o.dist
  pub farthest : (u : ℕ) → IsNode (node_count s.net) u → Settled q u → dist_at q u ≤ℤ o.dist
  pub nearest : (p : Offer) → Waits q p → o.dist ≤ℤ p.dist
  pub before_best : (t : Target) → q.best ≡ Some t → o.dist ≤ℤ t.dist

-- the prices after a search to a column at distance x: those of settled nodes rise by what they are
-- nearer
pub record AreRaised (s : Pseudoflow) (q : Search) (x : ℤ) (y z : List ℤ) : Type 0 where
  pub count : length z ≡ length y
  pub settled : (v : ℕ) → IsNode (node_count s.net) v → Settled q v → at_node z v ≡ at_node y v +ℤ (x -ℤ dist_at q v)
  pub others : (v : ℕ) → IsNode (node_count s.net) v → ¬ Settled q v → at_node z v ≡ at_node y v

-- no offer that waits is nearer than the target; without a target none waits
abbrev pub IsOver : Search → Type 0
IsOver q = (o : Offer) → Waits q o → IsBestUpTo q.best o.dist

-- a search once the nearest offer of use was taken out: that offer settles its column; without one
-- the search is over
abbrev pub IsNearest : Pseudoflow → List ℤ → ℕ → Search → Option Offer → Type 0
IsNearest s y source q None = IsSearch s y q source [] × IsOver q
IsNearest s y source q (Some o) = IsSearch s y q source (forward o.arc ∷ []) × IsDue s y q o

-- what was settled stays, at its distance: at most the offers that wait and the target are others
abbrev pub KeepsLabels : Search → Search → Type 0
KeepsLabels old new = new ≡ record old { queue = new.queue; best = new.best }

-- the arcs of a list were relaxed
abbrev pub AreRelaxed : Pseudoflow → List ℤ → Search → Search → List Rid → Type 0
AreRelaxed s y old new arcs = (source : ℕ) (rest : List Rid) → IsSearch s y old source (arcs ++ rest) → IsSearch s y new source rest

-- a list that has each arc that leaves the row, forward
abbrev pub HasForward : Network → ℕ → List Rid → Type 0
HasForward g row list =
    (k : ℕ) → IsArcNumber g k → (arc_at g k).src ≡ row → Contains list (forward k)
