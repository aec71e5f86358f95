-- What a matching is to its callers, and what one search does to it.
-- Source: AMO 12.4
use Rattle.std.specs.Prelude.{◌≡◌, ◌≢◌, ◌↔◌, ℕ, ◌+◌, Bool, true, List, ◌∷◌, length, ℤ, pos, ◌⊎◌}
use Rattle.std.specs.List.{All, AllPairs, Contains}
use Rattle.mcf_flows.specs.declared.problem.Side.TheVariants.{Send}
use Rattle.mcf_flows.specs.Blocking.{Blocks, in_table}
use Rattle.mcf_flows.specs.Network.{IsArcNumber, IsNode, node_count}
use Rattle.mcf_network.specs.declared.rid.Rid.{Rid}
use Rattle.mcf_network.specs.Residual.{head, tail}
use Rattle.mcf_network.specs.States.{Pseudoflow, amount_at}
use Rattle.mcf_network.specs.Walks.{CanPushAlong, HasRoom, IsWalk, pushed_along}
use Rattle.mcf_matching.specs.declared.extended.Extended.{Extended}
use Rattle.mcf_matching.specs.declared.extended.Extended.TheVariants.{Matched, Blocked}
use Rattle.mcf_matching.specs.Matchings.{AreMatchingPrices, IsColumn, IsLeastMatching, IsMatchedColumn, IsMatchedRow, IsPair, IsPartialMatching}
use Rattle.mcf_matching.specs.Matchings.{column_of, row_of}

-- the amounts, the prices, the nodes that the last search settled in their order, and the table of
-- the set that the last search reached that found no path, and how many searches there were
pub record Assigned : Type 0 where
  pub flow : Pseudoflow
  pub prices : List ℤ
  pub settled : List ℕ
  pub reached : List Bool
  pub searches : ℕ

-- an arc of amount 1 has an end there
abbrev pub IsMatched : Pseudoflow → ℕ → Type 0
IsMatched s v = (k : ℕ) × IsPair s k × ((row_of s k ≡ v) ⊎ (column_of s k ≡ v))

-- a partial matching with prices that show it, so that no other that matches the same rows costs
-- less
pub record IsShownMatching (m : Assigned) : Type 0 where
  pub matching : IsPartialMatching m.flow
  pub shown : AreMatchingPrices m.flow m.prices
  pub least : IsLeastMatching m.flow

-- no residual arc with room leaves the set
abbrev pub IsClosed : Pseudoflow → (ℕ → Bool) → Type 0
IsClosed s set =
    (r : Rid) → HasRoom s r → set (tail s.net r) ≡ true → set (head s.net r) ≡ true

-- residual arcs with room lead from the row to v: v is in every closed set that holds the row
abbrev pub IsReachable : Pseudoflow → ℕ → ℕ → Type 0
IsReachable s row v = (set : ℕ → Bool) → IsClosed s set → set row ≡ true → set v ≡ true

-- nodes of the net, none twice, the row first; in which order the others stand is not said
pub record IsSettledList (nodes row : ℕ) (list : List ℕ) : Type 0 where
  pub rest : List ℕ
  pub first : list ≡ row ∷ rest
  pub once : AllPairs (λ u v. u ≢ v) list
  pub each : All (IsNode nodes) list

-- an augmentation: one more along each residual arc of a walk from the row to a column that wasn't
-- matched, each of which had room and stands there once, and no other amount changed
pub record IsAugmented (old : Pseudoflow) (row : ℕ) (new : Pseudoflow) : Type 0 where
  pub walk : List Rid
  pub column : ℕ
  pub leads : IsWalk old.net row walk column
  pub can : CanPushAlong old walk (pos 1)
  pub is_column : IsColumn old column
  pub not_matched : ¬ IsMatchedColumn old column
  pub turned : new ≡ pushed_along old walk (pos 1)

-- a path from the row was turned: the rows that are matched are those before and the row asked,
-- matched columns stay matched, the search settled both ends of each arc whose amount changed, and
-- residual arcs with room led from the row to each settled node; the set that was reached before
-- stays
pub record IsGrown (old : Assigned) (row : ℕ) (new : Assigned) : Type 0 where
  pub net : new.flow.net ≡ old.flow.net
  pub path : IsAugmented old.flow row new.flow
  pub rows : (v : ℕ) → IsMatchedRow new.flow v ↔ (IsMatchedRow old.flow v ⊎ (v ≡ row))
  pub columns : (v : ℕ) → IsMatchedColumn old.flow v → IsMatchedColumn new.flow v
  pub settled : IsSettledList (node_count old.flow.net) row new.settled
  pub changed : (k : ℕ) → IsArcNumber old.flow.net k → amount_at new.flow k ≢ amount_at old.flow k
      → Contains new.settled (row_of old.flow k) × Contains new.settled (column_of old.flow k)
  pub reachable : (v : ℕ) → Contains new.settled v → IsReachable old.flow row v
  pub reached : new.reached ≡ old.reached
  pub searches : new.searches ≡ old.searches + 1

-- no amount changed; what was reached is what was settled, and that is the row and every node to
-- which residual arcs with room lead from it; it must send more than it can
pub record IsStopped (old : Assigned) (row : ℕ) (new : Assigned) : Type 0 where
  pub flow : new.flow ≡ old.flow
  pub settled : IsSettledList (node_count old.flow.net) row new.settled
  pub one_per_node : length new.reached ≡ node_count old.flow.net
  pub all : (v : ℕ) → IsNode (node_count old.flow.net) v → (in_table new.reached v ≡ true) ↔ Contains new.settled v
  pub reachable : (v : ℕ) → IsNode (node_count old.flow.net) v → (in_table new.reached v ≡ true) ↔ IsReachable old.flow row v
  pub blocks : Blocks old.flow.net (in_table new.reached) Send
  pub searches : new.searches ≡ old.searches + 1

-- what one search from a row does; of the prices after it nothing is said but that they show the
-- matching (`IsShownMatching`), since all of them may be updated before it begins
abbrev pub IsExtension : Assigned → ℕ → Extended → Assigned → Type 0
IsExtension old row Matched new = IsGrown old row new
IsExtension old row Blocked new = IsStopped old row new
