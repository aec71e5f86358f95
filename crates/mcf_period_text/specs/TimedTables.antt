-- Tables over periods, and where the places, the stores and the departures of their problem come
-- from.
-- Source: own
use Rattle.std.specs.Prelude.{ℕ, ◌-◌, ◌==◌, false, if◌then◌else◌, List, [], ◌∷◌, codes, slice_index_or}
use Rattle.mcf_answer_rows.specs.AnswerRows.{cell_under}
use Rattle.mcf_period_units.specs.declared.origins.DepartureOrigin.{DepartureOrigin}
use Rattle.mcf_period_units.specs.declared.origins.PeriodOrigins.{PeriodOrigins}
use Rattle.mcf_period_units.specs.declared.origins.PlaceOrigin.{PlaceOrigin}
use Rattle.mcf_period_units.specs.declared.origins.StoreOrigin.{StoreOrigin}
use Rattle.mcf_period_units.specs.PlacesOver.{row_or_first}
use Rattle.mcf_plan_rows.specs.FaultRows.{TwoTables, tables_in}
use Rattle.mcf_period_text.specs.declared.timed.Timed.{Timed}

-- the two tables, the names of their periods, and the rows of places, stores and departures
pub record TimedTables : Type 0 where
  pub two : TwoTables
  pub periods : List (List ℕ)
  pub origins : PeriodOrigins

-- what they are
abbrev pub timed_in : Timed → TimedTables
timed_in t = record { two = tables_in t.two; periods = t.periods.now; origins = t.origins.now }

-- ---- periods

-- the name of a period, from 1; 0 is the period before them, of first stock, and a number beyond
-- the last is the one after them, of last stock
abbrev pub period_name : List (List ℕ) → ℕ → List ℕ
period_name periods number =
    if number == 0 then codes "first stock" else slice_index_or periods (number - 1) (codes "last stock")

-- the names of two periods
abbrev pub from_to : TimedTables → ℕ → ℕ → List (List ℕ)
from_to t first second = period_name t.periods first ∷ period_name t.periods second ∷ []

-- ---- where rows come from, by places from 0

-- the place in a period
abbrev pub place_origin : TimedTables → ℕ → PlaceOrigin
place_origin t place = slice_index_or t.origins.places.items place (record { first = 0; row = 0; period = 0 })

-- the store
abbrev pub store_origin : TimedTables → ℕ → StoreOrigin
store_origin t place = slice_index_or t.origins.stores.items place (record { row = 0; period = 0 })

-- the departure
abbrev pub departure_origin : TimedTables → ℕ → DepartureOrigin
departure_origin t place =
    slice_index_or t.origins.departures.items place (record { row = 0; back = false; period = 0; arrival = 0 })

-- the row of a place in a period: the one that holds then, or else the one that names it first
abbrev pub told_row : PlaceOrigin → ℕ
told_row o = row_or_first o.row o.first

-- ---- names

-- the name of the place of a row of places
abbrev pub place_name : TimedTables → ℕ → List ℕ
place_name t row = cell_under (codes "name") t.two.places row

-- the name of the place where a departure leaves: the other end of the route, if it goes back
abbrev pub leaves_from : TimedTables → DepartureOrigin → List ℕ
leaves_from t d = cell_under (if d.back then codes "to" else codes "from") t.two.routes d.row

-- the name of the place where it arrives
abbrev pub arrives_at : TimedTables → DepartureOrigin → List ℕ
arrives_at t d = cell_under (if d.back then codes "from" else codes "to") t.two.routes d.row
