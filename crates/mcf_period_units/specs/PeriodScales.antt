-- The units of two tables over periods.
-- Source: own
use Rattle.std.specs.Prelude.{max, List, [], ◌∷◌, ◌++◌, Option, Some, None}
use Rattle.std.specs.List.{flat_map}
use Rattle.mcf_decimal.specs.declared.decimal.Decimal.{Decimal}
use Rattle.mcf_period_reading.specs.declared.place_times.KeepEntry.{KeepEntry}
use Rattle.mcf_period_reading.specs.declared.place_times.PlaceTime.{PlaceTime}
use Rattle.mcf_units.specs.Scales.{given_number, scale_of, scales_of}
use Rattle.mcf_units.specs.declared.scales.Scales.{Scales}
use Rattle.mcf_period_units.specs.PeriodEntries.{PeriodEntries}

-- the amounts of what a place may keep
abbrev pub keep_amounts : Option KeepEntry → List Decimal
keep_amounts None = []
keep_amounts (Some keep) = given_number keep.most

-- its costs
abbrev pub keep_costs : Option KeepEntry → List Decimal
keep_costs None = []
keep_costs (Some keep) = keep.cost ∷ []

-- the amounts of what a row of places says about periods
abbrev pub time_amounts : PlaceTime → List Decimal
time_amounts time = keep_amounts time.keep ++ (time.first ∷ time.last ∷ [])

-- its costs
abbrev pub time_costs : PlaceTime → List Decimal
time_costs time = keep_costs time.keep

-- the most decimals of all amounts, and of all costs
abbrev pub scales_over : PeriodEntries → Option Decimal → Scales
scales_over E penalty = record {
  amounts = max ((scales_of E.said penalty).amounts) (scale_of (flat_map time_amounts E.places));
  costs = max ((scales_of E.said penalty).costs) (scale_of (flat_map time_costs E.places));
}
