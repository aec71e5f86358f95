-- The rows of places in whole units.
-- Source: own
use Rattle.std.specs.Prelude.{ℕ, ◌-◌, ◌==◌, nat_lt, Bool, false, not, ◌&&◌, ◌||◌, if◌then◌else◌, List, length, map, ℤ, pos, ◌+ℤ◌, neg_ℤ, int_lt, Option, None, Some, slice_index_or, option_map}
use Rattle.std.specs.List.{list_any, range_with_len}
use Rattle.mcf_model.specs.Faults.{some_earn}
use Rattle.mcf_model.specs.declared.rows.RouteRow.{RouteRow}
use Rattle.mcf_model.specs.declared.rows.Step.{Step}
use Rattle.mcf_period_reading.specs.declared.place_times.KeepEntry.{KeepEntry}
use Rattle.mcf_period_reading.specs.declared.place_times.PlaceTime.{PlaceTime}
use Rattle.mcf_places.specs.PlannerFaults.{place_earns}
use Rattle.mcf_places.specs.declared.places.Place.{Place}
use Rattle.mcf_reading.specs.declared.place_rows.PlaceEntry.{PlaceEntry}
use Rattle.mcf_units.specs.Wholes.{fits, place_in, rows_in, steps_in, whole, whole_limit}
use Rattle.mcf_units.specs.declared.scales.Scales.{Scales}
use Rattle.mcf_period_units.specs.PeriodEntries.{PeriodEntries, entry_at, time_at}
use Rattle.mcf_period_units.specs.declared.unit_rows.UnitKeep.{UnitKeep}
use Rattle.mcf_period_units.specs.declared.unit_rows.UnitRow.{UnitRow}
use Rattle.mcf_period_units.specs.declared.unit_rows.TheConstants.{MARGIN}

-- what a place may keep, in units
abbrev pub keep_in : Scales → KeepEntry → UnitKeep
keep_in s keep = record { most = whole_limit s.amounts keep.most; cost = whole s.costs keep.cost }

-- a row in units
abbrev pub unit_row : Scales → PlaceEntry → PlaceTime → UnitRow
unit_row s entry time = record {
  place = place_in s entry;
  keep = option_map (keep_in s) time.keep;
  first = whole s.amounts time.first;
  last = whole s.amounts time.last;
}

-- all rows in units
abbrev pub unit_rows : Scales → PeriodEntries → List UnitRow
unit_rows s E = map (λ row. unit_row s (entry_at E.said.places row) (time_at E.places row)) (range_with_len 1 (length E.places))

-- a row that says nothing, for rows beyond the last
abbrev pub no_row : UnitRow
no_row = record { place = record { supply = pos 0; through = None; penalty = None }; keep = None; first = pos 0; last = pos 0 }

-- the row with this number; one that says nothing if there is none
abbrev pub row_at : List UnitRow → ℕ → UnitRow
row_at rows row = if row == 0 then no_row else slice_index_or rows (row - 1) no_row

-- a place that gives or wants so much, whatever passes through it
abbrev pub stock_place : ℤ → Option ℤ → Place
stock_place supply penalty = record { supply = supply; through = None; penalty = penalty }

-- the row names a last stock
abbrev pub leaves : UnitRow → Bool
leaves row = int_lt (pos 0) row.last

-- a penalty, unless the test holds
abbrev pub penalty_unless : Bool → Option ℤ → Option ℤ
penalty_unless test penalty = if test then None else penalty

-- the place of a row before the first named period: it gives its first stock
abbrev pub first_place : UnitRow → Place
first_place row = stock_place row.first None

-- its place after the last named period: it wants its last stock, or misses it at its penalty; a
-- number that doesn't fit 64 bits is 0
abbrev pub last_place : UnitRow → Place
last_place row =
    stock_place (if fits (neg_ℤ row.last) then neg_ℤ row.last else pos 0) (penalty_unless (not (leaves row)) row.place.penalty)

-- the penalty of a row in a named period, if this is the last one, is that of the last stock alone
-- if the place gives something
abbrev pub is_of_stock : Bool → UnitRow → Bool
is_of_stock ends row = ends && (leaves row && int_lt (pos 0) row.place.supply)

-- its place in a named period, which may be the last one
abbrev pub named_place : Bool → UnitRow → Place
named_place ends row = record {
  supply = row.place.supply;
  through = row.place.through;
  penalty = penalty_unless (is_of_stock ends row) row.place.penalty;
}

-- the place of a row in a period, by its number among the named ones, of which there are so many
abbrev pub place_over : ℕ → UnitRow → ℕ → Place
place_over last row number =
    if number == 0 then first_place row else if nat_lt last number then last_place row else named_place (number == last) row

-- ---- costs below 0

-- a unit that a place keeps costs less than 0
abbrev pub keep_earns : Option UnitKeep → Bool
keep_earns (Some keep) = int_lt keep.cost (pos 0)
keep_earns None = false

-- so does one that passes through the place of a row, or that it keeps
abbrev pub row_earns : UnitRow → Bool
row_earns row = place_earns row.place.through || keep_earns row.keep

-- some cost of these rows of places, or of these rows of routes, is below 0
abbrev pub earning : List UnitRow → List Step → List RouteRow → Bool
earning units steps rows = list_any row_earns units || some_earn steps rows

-- some cost of the tables is
abbrev pub earning_in : Scales → PeriodEntries → Bool
earning_in s E = earning (unit_rows s E) (steps_in s E.said.routes) (rows_in s 0 E.said.routes)

-- ---- what a place may keep

-- far more, if that fits 64 bits
abbrev pub far_more : ℤ → ℤ
far_more z = if fits (z +ℤ MARGIN) then z +ℤ MARGIN else z

-- What may be kept of a stock, at no cost: anything. Where some cost is below 0, nothing may be
-- without a limit; so it is far more than the stock, which no plan fills.
abbrev pub stock_keep : Bool → ℤ → UnitKeep
stock_keep limited stock = record { most = if limited then Some (far_more stock) else None; cost = pos 0 }

-- what the place of a row may keep after a period, by its number among the named ones, of which
-- there are so many: first stock before them, what the row says between two of them, and last stock
-- after the last
abbrev pub keep_over : Bool → ℕ → UnitRow → ℕ → Option UnitKeep
keep_over limited last row number =
    if number == 0
    then Some (stock_keep limited row.first)
    else if nat_lt number last then row.keep else Some (stock_keep limited row.last)
