-- An augmenting path turned from its end back to its beginning.
use Rattle.std.specs.Prelude.{◌≡◌, ℕ, ◌<◌, List, ℤ, pos, ◌⊎◌}
use Rattle.std.specs.List.{All}
use Rattle.mcf_network.specs.declared.rid.Rid.{Rid}
use Rattle.mcf_network.specs.States.{Pseudoflow}
use Rattle.mcf_network.specs.Walks.{CanPushAlong, IsWalk, pushed_along}
use Rattle.mcf_matching.specs.Extending.{IsAugmented}
use Rattle.mcf_matching.specs.Matchings.{IsMatchedColumn, IsMatchedRow, IsPair, IsPartialMatching, reduced, row_of}

-- one more went along the part of the path from column c on to column t, which wasn't matched: arcs
-- with room, whose rows have later places than the bound
pub record IsPushedFrom (old s : Pseudoflow) (place : ℕ → ℕ) (bound c t : ℕ) : Type 0 where
  pub walk : List Rid
  pub leads : IsWalk old.net c walk t
  pub can : CanPushAlong old walk (pos 1)
  pub later : All (λ r. bound < place (row_of old r.arc)) walk
  pub not_matched : ¬ IsMatchedColumn old t
  pub turned : s ≡ pushed_along old walk (pos 1)

-- the path from the row is turned: one row and one column more are matched, and none less
pub record IsExtended (old s : Pseudoflow) (z : List ℤ) (row t : ℕ) : Type 0 where
  pub net : s.net ≡ old.net
  pub path : IsAugmented old row s
  pub matching : IsPartialMatching s
  pub tight : (k : ℕ) → IsPair s k → reduced s z k ≡ pos 0
  pub rows : (v : ℕ) → IsMatchedRow s v → IsMatchedRow old v ⊎ (v ≡ row)
  pub rows_kept : (v : ℕ) → IsMatchedRow old v → IsMatchedRow s v
  pub row_matched : IsMatchedRow s row
  pub columns_kept : (v : ℕ) → IsMatchedColumn old v → IsMatchedColumn s v
  pub columns : (v : ℕ) → IsMatchedColumn s v → IsMatchedColumn old v ⊎ (v ≡ t)
