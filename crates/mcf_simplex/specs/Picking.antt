-- Which arc a pricing rule picks (Ahuja, Magnanti and Orlin, Network Flows, section 11.5).
-- Source: AMO 11.5
use Rattle.std.specs.Prelude.{ℕ, ◌<◌, ◌≤◌, Option, Some, None}
use Rattle.mcf_basis.specs.Pivots.{IsEligible}
use Rattle.mcf_basis.specs.Structures.{TreeStructure}
use Rattle.mcf_basis.specs.Violations.{HasNoEligible, violation}

-- the eligible arc of least number: each search begins with arc 1
pub record IsFirst (b : TreeStructure) (k : ℕ) : Type 0 where
  pub eligible : IsEligible b k
  pub first_one : (j : ℕ) → j < k → ¬ IsEligible b j

-- what the rule of the first arc picks
abbrev pub IsFirstPick : TreeStructure → Option ℕ → Type 0
IsFirstPick b (Some k) = IsFirst b k
IsFirstPick b None = HasNoEligible b

-- the eligible arc of greatest violation, and of those of the same violation the one of least
-- number
pub record IsBest (b : TreeStructure) (k : ℕ) : Type 0 where
  pub eligible : IsEligible b k
  pub greatest : (j : ℕ) → IsEligible b j → violation b j ≤ violation b k
  pub first_one : (j : ℕ) → j < k → IsEligible b j → violation b j < violation b k

-- what the rule of the most violated arc picks
abbrev pub IsBestPick : TreeStructure → Option ℕ → Type 0
IsBestPick b (Some k) = IsBest b k
IsBestPick b None = HasNoEligible b
