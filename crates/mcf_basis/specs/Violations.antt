-- By how much an arc violates the optimality conditions (Ahuja, Magnanti and Orlin, Network Flows,
-- section 11.5).
-- Source: AMO 11.5
use Rattle.std.specs.Prelude.{ℕ, ◌<◌, ◌≤◌, Option, Some, None, unsigned_abs}
use Rattle.mcf_basis.specs.Pivots.{IsEligible}
use Rattle.mcf_basis.specs.Structures.{TreeStructure, reduced_at}

-- no arc can enter
abbrev pub HasNoEligible : TreeStructure → Type 0
HasNoEligible b = (k : ℕ) → ¬ IsEligible b k

-- the size of the reduced cost
abbrev pub violation : TreeStructure → ℕ → ℕ
violation b k = unsigned_abs (reduced_at b k)

-- none of these arcs is eligible
abbrev pub HasNoneOf : TreeStructure → (ℕ → Type 0) → Type 0
HasNoneOf b Are = (k : ℕ) → Are k → ¬ IsEligible b k

-- of these arcs the eligible one of greatest violation, and of those of the same violation the one
-- of least number
pub record IsMostViolated (b : TreeStructure) (Are : ℕ → Type 0) (k : ℕ) : Type 0 where
  pub one_of : Are k
  pub eligible : IsEligible b k
  pub greatest : (j : ℕ) → Are j → IsEligible b j → violation b j ≤ violation b k
  pub first_one : (j : ℕ) → Are j → j < k → IsEligible b j → violation b j < violation b k

-- what these arcs give: the most violated one, or none if none is eligible
abbrev pub IsPickOf : TreeStructure → (ℕ → Type 0) → Option ℕ → Type 0
IsPickOf b Are (Some k) = IsMostViolated b Are k
IsPickOf b Are None = HasNoneOf b Are

-- an arc from first up to but not including end
abbrev pub IsFrom : ℕ → ℕ → ℕ → Type 0
IsFrom first end k = (first ≤ k) × (k < end)
