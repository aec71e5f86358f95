-- The rows of places by place and period.
-- Source: own
use Rattle.std.specs.Prelude.{◌≡◌, ℕ, ◌-◌, ◌==◌, nat_eq, Bool, ◌&&◌, List, length, find, Option, slice_index_or, unwrap_or}
use Rattle.std.specs.List.{range_with_len}
use Rattle.std.specs.HashMap.{HashMap, get}
use Rattle.mcf_period_reading.specs.declared.spots.Spot.{Spot}

-- the place and the period of a row, from 1
abbrev pub spot_at : List Spot → ℕ → Spot
spot_at all row = slice_index_or all (row - 1) (record { place = 0; period = 0 })

-- a row is of this place and period
abbrev pub is_at : ℕ → ℕ → Spot → Bool
is_at place period s = s.place == place && s.period == period

-- the first row of a place and a period, if there is one
abbrev pub row_with : List Spot → ℕ → ℕ → Option ℕ
row_with all place period = find (λ row. is_at place period (spot_at all row)) (range_with_len 1 (length all))

-- the row of a place that holds in a period: the one of this period, or else the one of each
-- period; 0 if there is neither
abbrev pub row_in : List Spot → ℕ → ℕ → ℕ
row_in all place period = unwrap_or (row_with all place period) (unwrap_or (row_with all place 0) 0)

-- both are the same
abbrev pub same_key : ℕ × ℕ → ℕ × ℕ → Bool
same_key a b = nat_eq a.0 b.0 && nat_eq a.1 b.1

-- the map has the first row of each place and period
abbrev pub AreFirstRows : {S : Type 0} → List Spot → HashMap (ℕ × ℕ) ℕ S → Type 0
AreFirstRows all rows = (q : ℕ × ℕ) → get same_key rows q ≡ row_with all q.0 q.1
