-- The steps of a row of the table of routes, which are counted from 0 here.
-- Source: own
use Rattle.std.specs.Prelude.{ℕ, suc, ◌+◌, ◌-◌, nat_lt, Bool, not, ◌&&◌, ◌||◌, if◌then◌else◌, List, [], ◌∷◌, ◌++◌, length, map, slice_index_or, Option, Some, None}
use Rattle.std.specs.List.{flat_map, suffix_len, range_with_len}
use Rattle.std.specs.Result.{result_err}
use Rattle.mcf_decimal.specs.Numbers.{read_number}
use Rattle.mcf_decimal.specs.declared.mark.Mark.{Mark}
use Rattle.mcf_table.specs.Texts.{is_filled}
use Rattle.mcf_reading.specs.Cells.{amount, cell_at, is_no_limit, limit, number_kind, read_limit}
use Rattle.mcf_reading.specs.Faults.{told, under}
use Rattle.mcf_reading.specs.declared.columns.StepColumns.{StepColumns}
use Rattle.mcf_reading.specs.declared.kinds.Fault.{Fault}
use Rattle.mcf_reading.specs.declared.kinds.FaultKind.{FaultKind}
use Rattle.mcf_reading.specs.declared.kinds.FaultKind.TheVariants.{AfterNoLimit}
use Rattle.mcf_reading.specs.declared.locations.Head.TheVariants.{Most, Cost}
use Rattle.mcf_reading.specs.declared.locations.Table.TheVariants.{Routes}
use Rattle.mcf_reading.specs.declared.steps.StepEntry.{StepEntry}
use Rattle.mcf_reading.specs.declared.steps.StepRead.{StepRead}

-- no step, for places beyond the last
abbrev pub no_columns : StepColumns
no_columns = record { most = None; cost = None }

-- the columns of a step
abbrev pub columns_at : List StepColumns → ℕ → StepColumns
columns_at columns step = slice_index_or columns step no_columns

-- the step is written: its most or its cost isn't empty
abbrev pub is_step : List (List ℕ) → StepColumns → Bool
is_step cells columns = is_filled (cell_at cells columns.most) || is_filled (cell_at cells columns.cost)

-- how many steps the row has: the first, and those after it up to the last that is written
abbrev pub step_count : List StepColumns → List (List ℕ) → ℕ
step_count [] cells = 0
step_count (first ∷ more) cells = suc (length more - suffix_len (λ columns. not (is_step cells columns)) more)

-- the step before has a cost, and no limit
abbrev pub is_after_open : List StepColumns → List (List ℕ) → ℕ → Bool
is_after_open columns cells step =
    nat_lt 0 step
    && (is_no_limit (cell_at cells (columns_at columns (step - 1)).most) && is_filled (cell_at cells (columns_at columns (step - 1)).cost))

-- the numbers of a step
unfoldable pub read_step : Option Mark → List StepColumns → List (List ℕ) → ℕ → StepRead
read_step mark columns cells step = record {
  after_open = is_after_open columns cells step;
  most = read_limit mark (cell_at cells (columns_at columns step).most);
  cost = read_number mark (cell_at cells (columns_at columns step).cost);
}

-- a step, with 0 for what wasn't read
unfoldable pub step_entry : StepRead → StepEntry
step_entry read = record { most = limit read.most; cost = amount read.cost }

-- a step after one without a limit
abbrev pub after_kind : Bool → Option FaultKind
after_kind after_open = if after_open then Some AfterNoLimit else None

-- the faults of a step, which is counted from 1 here
unfoldable pub step_faults : ℕ → ℕ → StepRead → List Fault
step_faults row step read =
    told (under Routes row (Most step)) (after_kind read.after_open)
    ++ told (under Routes row (Most step)) (number_kind (result_err read.most))
    ++ told (under Routes row (Cost step)) (number_kind (result_err read.cost))

-- the steps of a row
unfoldable pub row_steps : Option Mark → List StepColumns → List (List ℕ) → List StepEntry
row_steps mark columns cells =
    map (λ step. step_entry (read_step mark columns cells step)) (range_with_len 0 (step_count columns cells))

-- the faults of the steps of a row
unfoldable pub row_step_faults : Option Mark → ℕ → List StepColumns → List (List ℕ) → List Fault
row_step_faults mark row columns cells =
    flat_map (λ step. step_faults row (step + 1) (read_step mark columns cells step)) (range_with_len 0 (step_count columns cells))
