-- One pivot of the network simplex, which keeps trees strongly feasible (Cunningham; Ahuja,
-- Magnanti and Orlin, Network Flows, sections 11.5 and 11.6).
-- Source: AMO 11.5, 11.6
use Rattle.std.specs.Prelude.{◌≡◌, ℕ, ◌+◌, ◌≤◌, ◌⊎◌, List, ◌∷◌, ◌++◌, length, ℤ, pos, ◌+ℤ◌, ◌<ℤ◌, int_lt}
use Rattle.std.specs.List.{All}
use Rattle.mcf_flows.specs.Flow.{cost}
use Rattle.mcf_flows.specs.Network.{IsArcNumber, IsNode, node_count, node_sum, when}
use Rattle.mcf_network.specs.declared.rid.Rid.{Rid}
use Rattle.mcf_network.specs.Residual.{arc_at, head, tail}
use Rattle.mcf_network.specs.Walks.{pushed_along}
use Rattle.mcf_tree.specs.Apex.{IsApex}
use Rattle.mcf_tree.specs.SpanningTree.{IsAbove, IsSpanning, IsSwapped, depth_of, label_of}
use Rattle.mcf_tree.specs.Subtree.{below_from, is_above}
use Rattle.mcf_tree.specs.Written.{IsLocal}
use Rattle.mcf_basis.specs.Artificial.{with_artificial}
use Rattle.mcf_basis.specs.Structures.{TreeStructure, CanTake, IsInTree, carried, cycle_of, full_state, price_at, reduced_at}

-- an arc of the net outside the tree that can carry something, and gains by carrying more where it
-- carries nothing, or by carrying less where it is full
pub record IsEligible (b : TreeStructure) (k : ℕ) : Type 0 where
  pub arc : IsArcNumber b.net k
  pub outside : ¬ IsInTree b k
  pub wide : pos 0 <ℤ (arc_at b.net k).cap
  pub gains : ((carried b k ≡ pos 0) × (reduced_at b k <ℤ pos 0)) ⊎ ((carried b k ≡ (arc_at b.net k).cap) × (pos 0 <ℤ reduced_at b k))

-- the residual arc along which it gains: forward where the reduced cost is below 0, otherwise
-- backward
abbrev pub entering : TreeStructure → ℕ → Rid
entering b k = record { arc = k; back = int_lt (pos 0) (reduced_at b k) }

-- r is the last of the walk that blocks: x can go along each residual arc of the walk, and one more
-- along each behind r, but not along r
pub record IsLastBlocking (b : TreeStructure) (walk : List Rid) (x : ℤ) (r : Rid) : Type 0 where
  pub each : All (λ q. CanTake b q x) walk
  pub before : List Rid
  pub behind : List Rid
  pub splits : walk ≡ before ++ r ∷ behind
  pub full : ¬ CanTake b r (x +ℤ pos 1)
  pub free : All (λ q. CanTake b q (x +ℤ pos 1)) behind

-- the entering arc leaves at once: the tree and the prices stay, and nothing of them is written
pub record IsKept (old new : TreeStructure) : Type 0 where
  pub tree : new.tree ≡ old.tree
  pub prices : new.prices ≡ old.prices
  pub priced : new.priced ≡ old.priced

-- The entering arc r takes the place of the arc above the node out: the part cut off there hangs on
-- the other end of r, the prices in it change by one number, by which r gets reduced cost 0, and
-- all other prices stay. What is left is a tree again, and each price and each depth of the part
-- was written once.
pub record IsExchanged (old : TreeStructure) (r : Rid) (out inner outer : ℕ) (new : TreeStructure) : Type 0 where
  pub is_node : IsNode (node_count old.net) out
  pub ends : ((inner ≡ tail (with_artificial old.net) r) × (outer ≡ head (with_artificial old.net) r)) ⊎
      ((inner ≡ head (with_artificial old.net) r) × (outer ≡ tail (with_artificial old.net) r))
  pub inside : IsAbove old.tree out inner
  pub outside : ¬ IsAbove old.tree out outer
  pub swapped : IsSwapped old.tree new.tree out r.arc inner outer
  pub spanning : IsSpanning new.tree
  pub one_price_each : length new.prices ≡ length old.prices
  pub change : ℤ
  pub prices : (v : ℕ) → v ≤ node_count old.net → price_at new v ≡ price_at old v +ℤ when (is_above old.tree out v) change
  pub balanced : reduced_at new r.arc ≡ pos 0
  pub priced : new.priced ≡ old.priced + length (below_from old.tree out 0)
  pub measured : new.tree.measured ≡ old.tree.measured + length (below_from old.tree out 0)
  pub written : IsLocal old.tree new.tree out inner outer

-- the tree and the prices afterwards, where r enters and the arc of q leaves: they stay where r is
-- q, and are exchanged where q lies in the tree
pub data IsMended (old : TreeStructure) (r q : Rid) (new : TreeStructure) : Type 0 where
  kept : q ≡ r → IsKept old new → IsMended old r q new
  exchanged : (out inner outer : ℕ) → q.arc ≡ label_of old.tree out → IsExchanged old r out inner outer new → IsMended old r q new

-- One pivot, by which arc k enters: the least room round the cycle that it closes with the tree
-- moves round this cycle, in the direction in which k gains, and no other amount changes; the arc
-- that leaves is the last one that blocks, from the apex in this direction.
pub record IsPivot (old : TreeStructure) (k : ℕ) (moved : ℤ) (new : TreeStructure) : Type 0 where
  pub eligible : IsEligible old k
  pub apex : ℕ
  pub is_apex : IsApex old.tree.parents (depth_of old.tree) (tail (with_artificial old.net) (entering old k))
      (head (with_artificial old.net) (entering old k)) apex
  pub leaves : Rid
  pub last_blocking : IsLastBlocking old (cycle_of old (entering old k) apex) moved leaves
  pub net : new.net ≡ old.net
  pub amounts : new.amounts ≡ (pushed_along (full_state old) (cycle_of old (entering old k) apex) moved).amounts
  pub mended : IsMended old (entering old k) leaves new
  pub pivots : new.pivots ≡ old.pivots + 1

-- ---- the pair that every pivot lowers

-- the cost of all amounts, those of the artificial arcs among them
abbrev pub full_cost : TreeStructure → ℤ
full_cost b = cost (with_artificial b.net).arcs b.amounts

-- the sum of the prices of all nodes
abbrev pub price_sum : TreeStructure → ℤ
price_sum b = node_sum (price_at b) (node_count b.net)

-- the cost falls, or it stays and the sum of the prices falls
abbrev pub PairFalls : TreeStructure → TreeStructure → Type 0
PairFalls old new =
    (full_cost new <ℤ full_cost old) ⊎ ((full_cost new ≡ full_cost old) × (price_sum new <ℤ price_sum old))
