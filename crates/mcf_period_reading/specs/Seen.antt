-- Rows of places, as the sets of their places, and of their places and periods.
-- Source: own
use Rattle.std.specs.Prelude.{◌≡◌, ◌==◌, nat_eq, ℕ, List}
use Rattle.std.specs.HashSet.{HashSet, contains}
use Rattle.std.specs.List.{list_any}
use Rattle.mcf_period_reading.specs.Spots.{is_at, same_key}
use Rattle.mcf_period_reading.specs.declared.spots.Spot.{Spot}

-- the sets have the places of these rows, and their places and periods
pub record HasSeen {S T : Type 0} (rows : List Spot) (places : HashSet ℕ S) (spots : HashSet (ℕ × ℕ) T) : Type 0 where
  pub places_are : (p : ℕ) → contains nat_eq places p ≡ list_any (λ s. s.place == p) rows
  pub spots_are : (q : ℕ × ℕ) → contains same_key spots q ≡ list_any (is_at q.0 q.1) rows
