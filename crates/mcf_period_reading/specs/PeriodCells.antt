-- The cells of a row as amounts and limits that aren't below 0.
-- Source: own
use Rattle.std.specs.Prelude.{ℕ, Bool, List, map, pos, int_lt, Option, Some, None, Result, Ok, Err}
use Rattle.mcf_decimal.specs.declared.decimal.Decimal.{Decimal}
use Rattle.mcf_decimal.specs.declared.fault.NumberFault.{NumberFault}
use Rattle.mcf_reading.specs.Cells.{cell_at, rows}
use Rattle.mcf_table.specs.Heads.{cells_of}
use Rattle.mcf_table.specs.Texts.{Record}
use Rattle.mcf_period_reading.specs.PeriodFaults.{if_kind}
use Rattle.mcf_period_reading.specs.declared.kinds.PeriodKind.{PeriodKind}
use Rattle.mcf_period_reading.specs.declared.kinds.PeriodKind.TheVariants.{BelowZero, Number}

-- the cells of all rows in a column
abbrev pub cells_under : List Record → Option ℕ → List (List ℕ)
cells_under records column = map (λ row. cell_at (cells_of records row) column) (rows records)

-- the number is below 0
abbrev pub is_below : Decimal → Bool
is_below number = int_lt number.mantissa (pos 0)

-- why a cell wasn't read as a number
abbrev pub number_kind : Result Decimal NumberFault → Option PeriodKind
number_kind (Ok number) = None
number_kind (Err fault) = Some (Number fault)

-- why a cell isn't an amount from 0 on
abbrev pub stock_kind : Result Decimal NumberFault → Option PeriodKind
stock_kind (Ok number) = if_kind (is_below number) BelowZero
stock_kind (Err fault) = Some (Number fault)

-- why a cell isn't a limit from 0 on
abbrev pub limit_kind : Result (Option Decimal) NumberFault → Option PeriodKind
limit_kind (Ok None) = None
limit_kind (Ok (Some number)) = if_kind (is_below number) BelowZero
limit_kind (Err fault) = Some (Number fault)
