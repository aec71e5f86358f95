-- What two tables say over periods.
-- Source: own
use Rattle.std.specs.Prelude.{ℕ, ◌-◌, List, length, None, slice_index_or}
use Rattle.mcf_period_reading.specs.declared.place_times.PlaceTime.{PlaceTime}
use Rattle.mcf_period_reading.specs.declared.reading.PeriodTables.{PeriodTables}
use Rattle.mcf_period_reading.specs.declared.route_times.RouteTime.{RouteTime}
use Rattle.mcf_reading.specs.Cells.{zero_decimal}
use Rattle.mcf_reading.specs.declared.place_rows.PlaceEntry.{PlaceEntry}
use Rattle.mcf_reading.specs.Reading.{Entries}

-- what the tables say without periods, the number of periods, and what each row of places and of
-- routes says about periods
pub record PeriodEntries : Type 0 where
  pub said : Entries
  pub last : ℕ
  pub places : List PlaceTime
  pub routes : List RouteTime

-- the same of what was read
abbrev pub entries_over : Entries → PeriodTables → PeriodEntries
entries_over said times = record { said = said; last = length times.periods; places = times.places.items; routes = times.routes.items }

-- a row that says nothing about periods, for rows beyond the last
abbrev pub no_time : PlaceTime
no_time = record { place = 0; period = 0; keep = None; first = zero_decimal; last = zero_decimal }

-- what a row of places says about periods; rows count from 1
abbrev pub time_at : List PlaceTime → ℕ → PlaceTime
time_at times row = slice_index_or times (row - 1) no_time

-- a place that says nothing
abbrev pub no_entry : PlaceEntry
no_entry = record { supply = zero_decimal; through = None; penalty = None }

-- what a row of places says without periods
abbrev pub entry_at : List PlaceEntry → ℕ → PlaceEntry
entry_at entries row = slice_index_or entries (row - 1) no_entry

-- what a row of routes says about periods
abbrev pub route_time_at : List RouteTime → ℕ → RouteTime
route_time_at times row = slice_index_or times (row - 1) (record { period = 0; lead = zero_decimal })
