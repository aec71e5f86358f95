-- The columns that are read.
-- Source: own
use Rattle.std.specs.Prelude.{ℕ, List, map, Option}
use Rattle.mcf_table.specs.Heads.{only_place}
use Rattle.mcf_table.specs.Texts.{Record}
use Rattle.mcf_table.specs.declared.heads.Column.{Column}
use Rattle.mcf_reading.specs.HeadTexts.{all_steps, column_under, has_periods}
use Rattle.mcf_reading.specs.declared.columns.PlaceColumns.{PlaceColumns}
use Rattle.mcf_reading.specs.declared.columns.RouteColumns.{RouteColumns}
use Rattle.mcf_reading.specs.declared.columns.StepColumns.{StepColumns}
use Rattle.mcf_reading.specs.declared.locations.Head.{Head}
use Rattle.mcf_reading.specs.declared.locations.Head.TheVariants.{Name, Supply, Least, Most, Cost, Penalty, From, To, Both}

-- the place of the column with a head
unfoldable pub place_under : List Record → Head → Option ℕ
place_under records head = only_place (column_under records head)

-- the columns of the table of places
unfoldable pub place_columns : List Record → PlaceColumns
place_columns records = record {
  name = place_under records Name;
  supply = place_under records Supply;
  least = place_under records Least;
  most = place_under records (Most 1);
  cost = place_under records (Cost 1);
  penalty = place_under records Penalty;
  over_periods = has_periods records;
}

-- the columns of the table of routes, without those of steps
unfoldable pub route_columns : List Record → RouteColumns
route_columns records = record {
  tail = place_under records From;
  head = place_under records To;
  least = place_under records Least;
  both = place_under records Both;
}

-- the columns of a step
abbrev pub step_columns : List Record → ℕ → StepColumns
step_columns records step = record { most = place_under records (Most step); cost = place_under records (Cost step) }

-- the columns of all steps
unfoldable pub all_step_columns : List Record → List StepColumns
all_step_columns records = map (step_columns records) (all_steps records)
