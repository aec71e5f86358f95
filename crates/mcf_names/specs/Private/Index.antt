-- The names with their places, in order.
use Rattle.std.specs.Prelude.{◌≡◌, ℕ, ◌<◌, ◌==◌, Bool, true, List, [], length, slice_index_or, All}
use Rattle.std.specs.Cmp.Lexicographic.{slice_cmp}
use Rattle.std.specs.List.{list_any}
use Rattle.std.specs.List.Sorted.{IsSorted}
use Rattle.std.specs.Ordering.{is_lt, nat_cmp, ordering_then}
use Rattle.std.specs.declared.cmp.Ordering.{Ordering}
use Rattle.mcf_names.specs.declared.sorted.Placed.{Placed}

-- by name, and then by place
abbrev pub placed_cmp : Placed → Placed → Ordering
placed_cmp one other = ordering_then (slice_cmp nat_cmp one.name.now other.name.now) (nat_cmp one.place other.place)

-- the name stands at its place
abbrev pub IsPlaced : List (List ℕ) → Placed → Type 0
IsPlaced names placed = (placed.place < length names) × (slice_index_or names placed.place [] ≡ placed.name.now)

-- the entry is of this place
abbrev pub is_of : ℕ → Placed → Bool
is_of place placed = placed.place == place

-- names of the list with their places, and each place is there
pub record ArePlaced (names : List (List ℕ)) (entries : List Placed) : Type 0 where
  pub placed : All (IsPlaced names) entries
  pub each : (place : ℕ) → place < length names → list_any (is_of place) entries ≡ true

-- the names with their places, in order
pub record IsIndex (names : List (List ℕ)) (sorted : List Placed) : Type 0 where
  pub placed : ArePlaced names sorted
  pub ordered : IsSorted placed_cmp sorted

-- the entry's name is below this one
abbrev pub is_below : List ℕ → Placed → Bool
is_below name placed = is_lt (slice_cmp nat_cmp placed.name.now name)
