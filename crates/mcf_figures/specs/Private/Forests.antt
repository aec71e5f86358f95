-- Classes of numbers as trees: each number has a parent in its class, which is itself or a lower
-- one. The class is known by a label, its lowest number.
-- Source: own, after CLRS 21.3
use Rattle.std.specs.Prelude.{◌≡◌, ℕ, suc, ◌-◌, ◌<◌, ◌≤◌, ◌==◌, max, if◌then◌else◌, List, [], ◌∷◌, length, ℤ, pos, slice_index_or, ◌↔◌}
use Rattle.mcf_model.specs.Model.{Model}
use Rattle.mcf_model.specs.Tables.{no_route}
use Rattle.mcf_figures.specs.Figures.{AreJoined, IsLoose}
use Rattle.mcf_figures.specs.Groups.{entry, lowest}

-- no parent is greater than its child
abbrev pub Falls : List ℕ → Type 0
Falls parents = (v : ℕ) → v < length parents → entry parents v ≤ v

-- these are the labels of the classes: each number has that of its parent, and the root of a class
-- is its label
pub record IsForest (parents labels : List ℕ) : Type 0 where
  pub as_long : length labels ≡ length parents
  pub falls : Falls parents
  pub low : (v : ℕ) → v < length parents → entry labels v ≤ v
  pub same : (v : ℕ) → v < length parents → entry labels (entry parents v) ≡ entry labels v
  pub own : (v : ℕ) → v < length parents → entry parents v ≡ v → entry labels v ≡ v

-- the classes of places that the first `count` routes join, as far as they are loose; places count
-- from 0 here
pub record AreClasses (prices : List ℤ) (m : Model) (plan : List ℤ) (count : ℕ) (parents : List ℕ) : Type 0 where
  pub labels : List ℕ
  pub by_place : length parents ≡ length m.supplies
  pub labels_are : labels ≡ lowest prices m plan count
  pub forest : IsForest parents labels
  pub sound : (u w : ℕ) → u < length m.supplies → w < length m.supplies → entry labels u ≡ entry labels w → AreJoined prices m plan (suc u) (suc w)
  pub complete : (k : ℕ) → k < count → IsLoose prices (slice_index_or m.routes k no_route) (slice_index_or plan k (pos 0))
      → entry labels ((slice_index_or m.routes k no_route).tail - 1) ≡ entry labels ((slice_index_or m.routes k no_route).head - 1)

-- the next number: one more than `count` for a root, and otherwise that of the parent
abbrev pub next_number : List ℕ → List ℕ → ℕ → ℕ → ℕ
next_number parents made place count = if entry parents place == place then suc count else entry made (entry parents place)

-- the greatest of some numbers and `count`
abbrev pub greatest : ℕ → List ℕ → ℕ
greatest count [] = count
greatest count (number ∷ numbers) = greatest (max count number) numbers

-- two of the first `count` entries are the same just where their labels are
abbrev pub AreAlike : List ℕ → List ℕ → ℕ → Type 0
AreAlike labels numbers count =
    (u w : ℕ) → u < count → w < count → (entry numbers u ≡ entry numbers w) ↔ (entry labels u ≡ entry labels w)
