-- The places, numbered by the rows that name them first.
-- Source: own
use Rattle.std.specs.Prelude.{ℕ, ◌-◌, ◌==◌, Bool, if◌then◌else◌, List, length, map, filter, slice_index_or}
use Rattle.std.specs.List.{range_with_len}
use Rattle.mcf_period_reading.specs.declared.place_times.PlaceTime.{PlaceTime}
use Rattle.mcf_period_reading.specs.declared.spots.Spot.{Spot}
use Rattle.mcf_period_units.specs.PeriodEntries.{time_at}

-- the row names its place first
abbrev pub names_first : List PlaceTime → ℕ → Bool
names_first times row = (time_at times row).place == row

-- the rows that name places first, in order: place v is that of the v-th of them
abbrev pub place_rows : List PlaceTime → List ℕ
place_rows times = filter (names_first times) (range_with_len 1 (length times))

-- the number of places
abbrev pub place_count : List PlaceTime → ℕ
place_count times = length (place_rows times)

-- how many places the rows up to this one name: the number of its place, if the row names it first
abbrev pub place_number_of : List PlaceTime → ℕ → ℕ
place_number_of times row = length (filter (names_first times) (range_with_len 1 row))

-- the same for all rows
abbrev pub place_numbers : List PlaceTime → List ℕ
place_numbers times = map (place_number_of times) (range_with_len 1 (length times))

-- the number of the place that a row names first; 0 for no row
abbrev pub number_at : List ℕ → ℕ → ℕ
number_at numbers row = if row == 0 then 0 else slice_index_or numbers (row - 1) 0

-- the row that names place v first; places count from 1
abbrev pub first_row_of : List ℕ → ℕ → ℕ
first_row_of firsts v = slice_index_or firsts (v - 1) 0

-- the place and the period of each row
abbrev pub spots_of : List PlaceTime → List Spot
spots_of times = map (λ time. record { place = time.place; period = time.period }) times
