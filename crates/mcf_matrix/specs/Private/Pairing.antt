-- The tests that one pass over the rows of a matching makes.
use Rattle.std.specs.Prelude.{◌≡◌, ℕ, ◌<◌, Bool, true, false, List, ℤ}
use Rattle.mcf_matrix.specs.Costs.{Costs, IsAllowed}
use Rattle.mcf_matrix.specs.Matchings.{IsPair}
use Rattle.mcf_matrix.specs.Judging.{IsGoodPair}
use Rattle.mcf_matrix.specs.MatrixPrices.{AreTight}
use Rattle.mcf_matrix.specs.PlaceSums.{is_marked}

-- the pairs are allowed and tight, and no column comes twice
pub record AreGoodPairs (m : Costs) (x : List ℕ) (u v : List ℤ) : Type 0 where
  pub allowed : (i j : ℕ) → IsPair m x i j → IsAllowed m i j
  pub tight : AreTight m x u v
  pub distinct : (i k j : ℕ) → IsPair m x i j → IsPair m x k j → i ≡ k

-- the table marks the columns of the first so many rows
pub record IsMarking (m : Costs) (x : List ℕ) (rows : ℕ) (seen : List Bool) : Type 0 where
  pub some : (j : ℕ) → j < m.columns → is_marked seen j ≡ true → (i : ℕ) × (i < rows) × IsPair m x i j
  pub free : (j : ℕ) → j < m.columns → is_marked seen j ≡ false → (i : ℕ) → i < rows → ¬ IsPair m x i j

-- so far the pairs are good, and the table marks their columns
pub record ArePairedSoFar (m : Costs) (x : List ℕ) (u v : List ℤ) (rows : ℕ) (seen : List Bool) : Type 0 where
  pub good : (i j : ℕ) → i < rows → IsPair m x i j → IsGoodPair m u v i j
  pub distinct : (i k j : ℕ) → i < rows → k < rows → IsPair m x i j → IsPair m x k j → i ≡ k
  pub marking : IsMarking m x rows seen
