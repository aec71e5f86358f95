-- The faults of the heads of both tables, and whether they say something about periods.
-- Source: own
use Rattle.std.specs.Prelude.{nat_lt, Bool, not, ◌||◌, List, ◌++◌, length, Option, Some, None}
use Rattle.std.specs.List.{flat_map}
use Rattle.mcf_reading.specs.HeadTexts.{has_periods}
use Rattle.mcf_reading.specs.declared.locations.Table.{Table}
use Rattle.mcf_reading.specs.declared.locations.Table.TheVariants.{Places, Routes}
use Rattle.mcf_table.specs.Texts.{Record}
use Rattle.mcf_table.specs.declared.heads.Column.{Column}
use Rattle.mcf_table.specs.declared.heads.Column.TheVariants.{Missing, Twice, At}
use Rattle.mcf_period_reading.specs.NearHeads.{near_faults}
use Rattle.mcf_period_reading.specs.PeriodFaults.{if_kind, told}
use Rattle.mcf_period_reading.specs.PeriodHeads.{column_under, has_any, heads_of}
use Rattle.mcf_period_reading.specs.declared.heads.PeriodHead.{PeriodHead}
use Rattle.mcf_period_reading.specs.declared.kinds.PeriodFault.{PeriodFault}
use Rattle.mcf_period_reading.specs.declared.kinds.PeriodKind.{PeriodKind}
use Rattle.mcf_period_reading.specs.declared.kinds.PeriodKind.TheVariants.{NoPeriods, TwoColumns}

-- what is wrong with a column, if the table of places has a column of periods, or if it has none
abbrev pub column_kind : Bool → Column → Option PeriodKind
column_kind has Missing = None
column_kind has Twice = Some TwoColumns
column_kind has (At place) = if_kind (not has) NoPeriods

-- the fault of a head
abbrev pub head_fault : Bool → Table → List Record → PeriodHead → List PeriodFault
head_fault has table records head = told table 0 head (column_kind has (column_under records head))

-- the faults of the heads that are looked for in a table, in their order
abbrev pub column_faults : Bool → Table → List Record → List PeriodFault
column_faults has table records = flat_map (head_fault has table records) (heads_of table)

-- The faults of the heads of both tables, in order: those of the heads that are looked for, and
-- those of columns that aren't read because their heads are only nearly these.
abbrev pub head_faults : List Record → List Record → List PeriodFault
head_faults places routes =
    column_faults (has_periods places) Places places ++ column_faults (has_periods places) Routes routes
    ++ near_faults Places places ++ near_faults Routes routes

-- a column of a table says something about periods, or its head nearly is one of those that do
abbrev pub tells_in : Table → List Record → Bool
tells_in table records = has_any records (heads_of table) || nat_lt 0 (length (near_faults table records))

-- a column of the tables says something about periods, or its head nearly is one of those that do
abbrev pub tells_periods : List Record → List Record → Bool
tells_periods places routes = tells_in Places places || tells_in Routes routes
