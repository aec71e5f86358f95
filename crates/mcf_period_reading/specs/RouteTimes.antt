-- What rows of routes say about periods.
-- Source: own
use Rattle.std.specs.Prelude.{ℕ, ◌^◌, ◌==◌, Bool, not, ◌&&◌, List, ◌++◌, map, pos, int_lt, Option, Some, Result, Ok, Err}
use Rattle.std.specs.List.{flat_map}
use Rattle.std.specs.Option.{is_none}
use Rattle.mcf_decimal.specs.declared.decimal.Decimal.{Decimal}
use Rattle.mcf_decimal.specs.declared.fault.NumberFault.{NumberFault}
use Rattle.mcf_decimal.specs.declared.mark.Mark.{Mark}
use Rattle.mcf_names.specs.Names.{number_of}
use Rattle.mcf_reading.specs.Cells.{amount, cell_at, read_amount, rows}
use Rattle.mcf_reading.specs.declared.locations.Table.TheVariants.{Routes}
use Rattle.mcf_table.specs.Heads.{cells_of}
use Rattle.mcf_table.specs.Texts.{Record, is_filled}
use Rattle.mcf_period_reading.specs.PeriodFaults.{if_kind, told}
use Rattle.mcf_period_reading.specs.PeriodHeads.{place_under}
use Rattle.mcf_period_reading.specs.PlaceTimes.{period_kind, period_number}
use Rattle.mcf_period_reading.specs.declared.heads.PeriodHead.TheVariants.{Lead, Period}
use Rattle.mcf_period_reading.specs.declared.kinds.PeriodFault.{PeriodFault}
use Rattle.mcf_period_reading.specs.declared.kinds.PeriodKind.{PeriodKind}
use Rattle.mcf_period_reading.specs.declared.kinds.PeriodKind.TheVariants.{NoLead, NoPeriod, Number}
use Rattle.mcf_period_reading.specs.declared.route_times.RouteFormat.{RouteFormat}
use Rattle.mcf_period_reading.specs.declared.route_times.RouteTime.{RouteTime}

-- how the rows of a table are read
abbrev pub route_format : Option Mark → List Record → RouteFormat
route_format mark records = record { mark = mark; period = place_under records Period; lead = place_under records Lead }

-- no row of places holds in the period
abbrev pub is_unknown : List (List ℕ) → List ℕ → Bool
is_unknown periods cell = is_filled cell && is_none (number_of cell periods)

-- the number is a whole one from 0 on, of 32 bits
abbrev pub is_lead : Decimal → Bool
is_lead d = d.places == 0 && (not (int_lt d.mantissa (pos 0)) && int_lt d.mantissa (pos (2 ^ 32)))

-- why a cell isn't a lead
abbrev pub lead_kind : Result Decimal NumberFault → Option PeriodKind
lead_kind (Ok number) = if_kind (not (is_lead number)) NoLead
lead_kind (Err fault) = Some (Number fault)

-- the faults of a row
abbrev pub route_faults : RouteFormat → List (List ℕ) → ℕ → List (List ℕ) → List PeriodFault
route_faults format periods row cells =
    told Routes row Period (period_kind (cell_at cells format.period))
    ++ (told Routes row Period (if_kind (is_unknown periods (cell_at cells format.period)) NoPeriod)
    ++ told Routes row Lead (lead_kind (read_amount format.mark (cell_at cells format.lead))))

-- what a row says
abbrev pub route_time : RouteFormat → List (List ℕ) → List (List ℕ) → RouteTime
route_time format periods cells = record {
  period = period_number periods (cell_at cells format.period);
  lead = amount (read_amount format.mark (cell_at cells format.lead));
}

-- what all rows say
abbrev pub route_times : RouteFormat → List (List ℕ) → List Record → List RouteTime
route_times format periods records = map (λ row. route_time format periods (cells_of records row)) (rows records)

-- the faults of all rows
abbrev pub all_route_faults : RouteFormat → List (List ℕ) → List Record → List PeriodFault
all_route_faults format periods records = flat_map (λ row. route_faults format periods row (cells_of records row)) (rows records)
