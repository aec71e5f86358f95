-- The loop of the network simplex, from any basis on.
use Rattle.std.specs.Prelude.{◌≡◌, ◌+◌, ℕ, Option, None}
use Rattle.mcf_basis.specs.Ranks.{IsBounded}
use Rattle.mcf_basis.specs.Structures.{TreeStructure}
use Rattle.mcf_simplex.specs.Runs.{Reached}

-- from the rule r and the basis b so many pivots, within the bound, lead to the basis last, at
-- which the rule finds no arc and becomes t
pub record IsLoop {R : Type 0} (Picks : R → TreeStructure → Option ℕ → R → Type 0) (r : R) (b : TreeStructure) (t : R) (last : TreeStructure) : Type 0 where
  pub rule : R
  pub pivots : ℕ
  pub reached : Reached Picks r b rule last pivots
  pub bounded : IsBounded b pivots
  pub counted : last.pivots ≡ b.pivots + pivots
  pub found_none : Picks rule last None t
