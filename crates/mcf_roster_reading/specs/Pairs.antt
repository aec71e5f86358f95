-- The pairs of persons and things.
-- Source: own
use Rattle.std.specs.Prelude.{ℕ, Bool, not, List, filter, pos, Option, unwrap_or, Result, Ok, Err}
use Rattle.std.specs.List.{flat_map}
use Rattle.std.specs.Result.{result_err}
use Rattle.mcf_decimal.specs.Numbers.{read_number}
use Rattle.mcf_decimal.specs.declared.decimal.Decimal.{Decimal}
use Rattle.mcf_decimal.specs.declared.fault.NumberFault.{NumberFault}
use Rattle.mcf_decimal.specs.declared.mark.Mark.{Mark}
use Rattle.mcf_names.specs.Names.{number_of}
use Rattle.mcf_table.specs.Texts.{Record}
use Rattle.mcf_roster_reading.specs.Cells.{cell_in, is_forbidden}
use Rattle.mcf_roster_reading.specs.Faults.{number_kind, told}
use Rattle.mcf_roster_reading.specs.declared.kinds.Fault.{Fault}
use Rattle.mcf_roster_reading.specs.declared.kinds.Location.TheVariants.{Cell}
use Rattle.mcf_roster_reading.specs.declared.layouts.PairAt.{PairAt}
use Rattle.mcf_roster_reading.specs.declared.pairs.PairEntry.{PairEntry}

-- the cost doesn't forbid the pair
abbrev pub is_allowed : List Record → PairAt → Bool
is_allowed records pair = not (is_forbidden (cell_in records pair.cost))

-- the pairs that aren't forbidden
abbrev pub allowed : List Record → List PairAt → List PairAt
allowed records pairs = filter (is_allowed records) pairs

-- the decimal 0
abbrev pub zero_decimal : Decimal
zero_decimal = record { mantissa = pos 0; places = 0 }

-- the number; 0 if the cell wasn't read
abbrev pub amount : Result Decimal NumberFault → Decimal
amount (Ok number) = number
amount (Err fault) = zero_decimal

-- the number of a name among these, from 1, or 0
abbrev pub number_or_none : Option ℕ → ℕ
number_or_none found = unwrap_or found 0

-- a pair: the numbers of the person and of the thing, the cost, and its cell
unfoldable pub pair_entry : Option Mark → List (List ℕ) → List (List ℕ) → List Record → PairAt → PairEntry
pair_entry mark persons things records pair = record {
  who = number_or_none (number_of (cell_in records pair.who) persons);
  what = number_or_none (number_of (cell_in records pair.what) things);
  cost = amount (read_number mark (cell_in records pair.cost));
  at = pair.cost;
}

-- the fault of a pair's cost
abbrev pub cost_fault : Option Mark → List Record → PairAt → List Fault
cost_fault mark records pair = told (Cell pair.cost) (number_kind (result_err (read_number mark (cell_in records pair.cost))))

-- the faults of the costs of pairs
abbrev pub cost_faults : Option Mark → List Record → List PairAt → List Fault
cost_faults mark records pairs = flat_map (cost_fault mark records) pairs
