-- What is too great, or too late, over periods.
-- Source: own
use Rattle.std.specs.Prelude.{ℕ, ◌+◌, ◌*◌, ◌==◌, nat_lt, Bool, ◌||◌, if◌then◌else◌, List, [], ◌∷◌, ◌++◌, length, map, Option, Some, None, unsigned_abs}
use Rattle.std.specs.Prelude.{◌^◌}
use Rattle.std.specs.List.{flat_map, range_with_len}
use Rattle.mcf_decimal.specs.declared.decimal.Decimal.{Decimal}
use Rattle.mcf_period_reading.specs.declared.heads.PeriodHead.TheVariants.{FirstStock, KeepCost, KeepMost, LastStock}
use Rattle.mcf_period_reading.specs.declared.place_times.KeepEntry.{KeepEntry}
use Rattle.mcf_period_reading.specs.declared.place_times.PlaceTime.{PlaceTime}
use Rattle.mcf_period_reading.specs.declared.route_times.RouteTime.{RouteTime}
use Rattle.mcf_places.specs.declared.faults.TheConstants.{PLACE_LIMIT}
use Rattle.mcf_units.specs.GreatNumbers.{great_faults}
use Rattle.mcf_units.specs.Wholes.{is_whole}
use Rattle.mcf_units.specs.declared.scales.Scales.{Scales}
use Rattle.mcf_units.specs.declared.terms.Terms.{Terms}
use Rattle.mcf_period_units.specs.Numbering.{place_count}
use Rattle.mcf_period_units.specs.PeriodEntries.{PeriodEntries, route_time_at, time_at}
use Rattle.mcf_period_units.specs.Spans.{period_count, span_of}
use Rattle.mcf_period_units.specs.declared.faults.PeriodGreat.{PeriodGreat}
use Rattle.mcf_period_units.specs.declared.faults.PeriodGreat.TheVariants.{Cell, Late, Number, Places}

-- this fault, unless the test holds
abbrev pub unless_so : Bool → PeriodGreat → List PeriodGreat
unless_so test fault = if test then [] else fault ∷ []

-- the same for a limit, unless it is a whole number of units that fits 64 bits
abbrev pub unless_limit : ℕ → Option Decimal → PeriodGreat → List PeriodGreat
unless_limit scale None fault = []
unless_limit scale (Some d) fault = unless_so (is_whole scale d) fault

-- the numbers of what a place may keep that are too great
abbrev pub great_keep : Scales → ℕ → Option KeepEntry → List PeriodGreat
great_keep s row None = []
great_keep s row (Some keep) =
    unless_limit s.amounts keep.most (Cell (record { row = row; head = KeepMost }))
    ++ unless_so (is_whole s.costs keep.cost) (Cell (record { row = row; head = KeepCost }))

-- the numbers that a row of places says about periods that are too great
abbrev pub great_time : Scales → ℕ → PlaceTime → List PeriodGreat
great_time s row time =
    great_keep s row time.keep
    ++ (unless_so (is_whole s.amounts time.first) (Cell (record { row = row; head = FirstStock }))
    ++ unless_so (is_whole s.amounts time.last) (Cell (record { row = row; head = LastStock })))

-- what is too great in a row of places
abbrev pub great_row : Scales → List PlaceTime → ℕ → List PeriodGreat
great_row s times row = great_time s row (time_at times row)

-- a lead, which is a whole number of 32 bits
abbrev pub lead_of : Decimal → ℕ
lead_of d = if nat_lt (unsigned_abs d.mantissa) (2 ^ 32) then unsigned_abs d.mantissa else 0

-- the first period in which a row of routes departs: its own, or the first of all
abbrev pub first_departure : RouteTime → ℕ
first_departure time = if time.period == 0 then 1 else time.period

-- what leaves then arrives after the last period
abbrev pub is_late : ℕ → RouteTime → Bool
is_late last time = nat_lt last (first_departure time + lead_of time.lead)

-- the fault of a row of routes, if there are so many periods
abbrev pub late_fault : ℕ → List RouteTime → ℕ → List PeriodGreat
late_fault last times row = if is_late last (route_time_at times row) then Late row ∷ [] else []

-- there are too many places, periods, or places in all periods
abbrev pub is_large : PeriodEntries → Bool
is_large E =
    nat_lt PLACE_LIMIT (place_count E.places)
    || (nat_lt PLACE_LIMIT E.last || nat_lt PLACE_LIMIT (place_count E.places * period_count (span_of E)))

-- what is too great of rows: numbers without periods, those about periods, and rows that are too
-- late
abbrev pub great_rows : Scales → PeriodEntries → Terms → List PeriodGreat
great_rows s E terms =
    map Number (great_faults s E.said terms)
    ++ (flat_map (great_row s E.places) (range_with_len 1 (length E.places)) ++ flat_map (late_fault E.last E.routes) (range_with_len 1 (length E.said.routes)))

-- that there are too many places, or else what is too great of rows
abbrev pub greats : Scales → PeriodEntries → Terms → List PeriodGreat
greats s E terms = if is_large E then Places ∷ [] else great_rows s E terms
