-- What both tables say about periods.
-- Source: own
use Rattle.std.specs.Prelude.{◌≡◌, ◌==◌, ◌&&◌, List, [], ◌++◌, length, Option, Result, Ok, Err}
use Rattle.std.specs.Global.{Vec}
use Rattle.mcf_decimal.specs.declared.mark.Mark.{Mark}
use Rattle.mcf_table.specs.Texts.{Record}
use Rattle.mcf_period_reading.specs.PeriodCells.{cells_under}
use Rattle.mcf_reading.specs.HeadTexts.{has_periods}
use Rattle.mcf_reading.specs.declared.locations.Table.TheVariants.{Places}
use Rattle.mcf_period_reading.specs.PeriodFaults.{if_kind, told}
use Rattle.mcf_period_reading.specs.PlaceTimes.{all_place_faults, periods_in, place_times, spots, time_columns}
use Rattle.mcf_period_reading.specs.RouteTimes.{all_route_faults, route_format, route_times}
use Rattle.mcf_period_reading.specs.declared.heads.PeriodHead.TheVariants.{Period}
use Rattle.mcf_period_reading.specs.declared.kinds.PeriodFault.{PeriodFault}
use Rattle.mcf_period_reading.specs.declared.kinds.PeriodKind.{PeriodKind}
use Rattle.mcf_period_reading.specs.declared.kinds.PeriodKind.TheVariants.{NoneNamed}
use Rattle.mcf_period_reading.specs.declared.place_times.PlaceFormat.{PlaceFormat}
use Rattle.mcf_period_reading.specs.declared.spots.Spot.{Spot}
use Rattle.mcf_period_reading.specs.declared.reading.PeriodTables.{PeriodTables}

-- how the rows of places are read
abbrev pub place_format : Option Mark → List Record → PlaceFormat
place_format mark places = record { mark = mark; columns = time_columns places; count = length (periods_in places) }

-- the place and the period of each row of places
abbrev pub spots_in : List Record → List Spot
spots_in places = spots (time_columns places) (cells_under places ((time_columns places).name)) (periods_in places) places

-- there is a column of periods, and it names none
abbrev pub empty_kind : List Record → Option PeriodKind
empty_kind places = if_kind (has_periods places && length (periods_in places) == 0) NoneNamed

-- the faults of the rows of both tables: that none names a period, those of places, and then those
-- of routes
abbrev pub row_faults : Option Mark → List Record → List Record → List PeriodFault
row_faults mark places routes =
    told Places 0 Period (empty_kind places)
    ++ (all_place_faults (place_format mark places) (spots_in places) places ++ all_route_faults (route_format mark routes) (periods_in places) routes)

-- what the rows say: the periods, and what each row says of them
pub record SaysOf (mark : Option Mark) (places routes : List Record) (made : PeriodTables) : Type 0 where
  pub periods_are : made.periods ≡ periods_in places
  pub places_are : made.places.items ≡ place_times (place_format mark places) (spots_in places) places
  pub routes_are : made.routes.items ≡ route_times (route_format mark routes) (periods_in places) routes

-- What the rows say, if they have no fault; or else all their faults.
abbrev pub IsReadOf : Option Mark → List Record → List Record → Result PeriodTables (Vec PeriodFault) → Type 0
IsReadOf mark places routes (Ok made) = (row_faults mark places routes ≡ []) × SaysOf mark places routes made
IsReadOf mark places routes (Err found) = (found.items ≡ row_faults mark places routes) × ¬ (found.items ≡ [])
