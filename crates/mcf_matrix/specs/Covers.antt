-- Covers: sets of rows and columns such that each allowed pair has one of them. If a cover is
-- smaller than both sides, there is no matching.
-- Source: König 1931, Hall 1935
use Rattle.std.specs.Prelude.{◌≡◌, ℕ, ◌+◌, ◌<◌, min, ◌⊎◌, Bool, IsTrue, List, length}
use Rattle.mcf_matrix.specs.Costs.{Costs, IsAllowed, IsPlace}
use Rattle.mcf_matrix.specs.PlaceSums.{is_marked, mark_count}

-- each allowed pair has its row or its column marked
abbrev pub AreCovered : Costs → List Bool → List Bool → Type 0
AreCovered m rows columns = (i j : ℕ) → IsPlace m i j → IsAllowed m i j → IsTrue (is_marked rows i) ⊎ IsTrue (is_marked columns j)

-- each allowed pair has a marked row or a marked column, and there are fewer marks than rows, and
-- fewer than columns
pub record IsShortCover (m : Costs) (rows columns : List Bool) : Type 0 where
  pub one_per_row : length rows ≡ m.rows
  pub one_per_column : length columns ≡ m.columns
  pub covers : AreCovered m rows columns
  pub short : mark_count rows + mark_count columns < min m.rows m.columns
